-- Date-times of TOML as a form: the day of a date, the time of nanoseconds, and that what is written is read back.
use Rattle.std.proofs.Common.{◌≡◌, ◌≢◌, ℕ, ◌+◌, ◌*◌, ◌/◌, ◌%◌, ◌^◌, ◌<◌, ◌≤◌, ◌==◌, cond, Bool, true, false, List, Option, Some, None}
use Rattle.std.proofs.Common.{Result, Ok, Err, refl, sym, ◌∙◌, ap, subst, inl, inr, arith, to_z, of_z}
use Rattle.std.specs.Prelude.{ℤ, pos, negsuc, neg_ℤ, ◌+ℤ◌, ◌-ℤ◌, ◌*ℤ◌, ◌<ℤ◌, ◌≤ℤ◌, unsigned_abs, unwrap_or}
use Rattle.std.specs.Int.{int_div_euclid, int_rem_euclid, w16}
use Rattle.std.proofs.lemmas.Bool.Decides.{nat_tests}
use Rattle.std.proofs.lemmas.Int.{ints}
use Rattle.iso8601.specs.Calendar.{day_of as iso_day_of}
use Rattle.scan_core.specs.Calendar.{days_in_month}
use Rattle.iso8601.specs.declared.types.Date.TheVariants.{YMD}
use Rattle.jiff_core.specs.Calendar.{IsYear, IsEpochDay, days_in_month as civil_days_in_month, days_from_civil}
use Rattle.jiff_core.specs.Date.{epoch_day}
use Rattle.jiff_core.specs.declared.civil.date.Date.{Date as CivilDate}
use Rattle.jiff_core.proofs.DateLemmas.{epoch_day_range, epoch_day_injective}
use Rattle.jiff_core.proofs.SignedLemmas.{signed_arith}
use Rattle.port_toml_datetime.specs.Datetimes.{IsDatetime, datetime_of}
use Rattle.port_toml_datetime.specs.Texts.{text_of}
use Rattle.port_toml_datetime.specs.WellFormed.{IsRealDay, IsRealTime, AreRealSeconds, IsOffsetInRange, AreWellFormed, IsWellFormed}
use Rattle.port_toml_datetime.specs.declared.date.Date.{Date}
use Rattle.port_toml_datetime.specs.declared.time.Time.{Time}
use Rattle.port_toml_datetime.specs.declared.offset.Offset.{Offset}
use Rattle.port_toml_datetime.specs.declared.offset.Offset.TheVariants.{Z, Custom}
use Rattle.port_toml_datetime.specs.declared.datetime.Datetime.{Datetime}
use Rattle.forms.specs.declared.cause.Cause.{Cause}
use Rattle.forms.specs.declared.cause.Cause.TheVariants.{NoSuchMoment, Range, Kind}
use Rattle.forms.specs.declared.form.Form.TheVariants.{Toml}
use Rattle.forms.specs.declared.value.Value.{Value}
use Rattle.forms.specs.declared.value.Value.TheVariants.{Instant, Day, Local, Clock, Triple, Length}
use Rattle.forms.specs.Answers.{Is, result_map}
use Rattle.forms.specs.Values.{IsWithinBounds, IsOfDay, Same}
use Rattle.forms.specs.form.Toml.{clock, minutes_of, moment_of, dated_worth, worth_of, time_of, HoldsDay, HoldsDated, Holds}
use Rattle.forms.specs.inside.TomlParts.{fraction_of}
use Rattle.forms.specs.inside.TomlParts.{day_of, clock_of, worth}
use Rattle.port_toml_datetime.specs.Datetimes.{IsDatetime}
use Rattle.forms.specs.inside.Lawful.{Lawful}
use Rattle.forms.proofs.Lawful.{AreAscii, else_ok, same_ok, map_ok, one_image, IsHeldBack, lawful_by}

-- ---- days

-- civil months have these days too
same_month : (year month : ℕ) → civil_days_in_month (pos year) month ≡ days_in_month (pos year) month
same_month year month = refl

pub most_days : (d : Date) → IsRealDay d → d.day ≤ civil_days_in_month (pos d.year) d.month
most_days d real = subst (λ (n : ℕ). d.day ≤ n) (sym (same_month d.year d.month)) real.days

-- 16 bits hold a civil year
pub kept_year : (c : CivilDate) → to_z w16 (of_z w16 c.year) ≡ c.year
kept_year c = let range : IsYear c.year = c.year_in in omega (arith, ints)

-- a real day is a civil one
pub civil_of : (d : Date) → IsRealDay d → CivilDate
civil_of d real = record {
  year = pos d.year;
  month = d.month;
  day = d.day;
  year_in = let y = real.year in (omega (arith, ints), omega (arith, ints));
  month_in = (real.month, real.months);
  day_in = (real.day, most_days d real);
}

-- what the law of the crate below says of civil dates
abbrev pub SameDays : Type 0
SameDays = (d : CivilDate) → iso_day_of (YMD d.year d.month d.day) ≡ epoch_day d

pub civil_day : SameDays → (d : Date) (real : IsRealDay d) → day_of d ≡ epoch_day (civil_of d real)
unfolding civil_of
civil_day days d real = days (civil_of d real)

pub civil_number : SameDays → (d : Date) → IsRealDay d → days_from_civil (pos d.year) d.month d.day ≡ day_of d
unfolding civil_of
civil_number days d real = sym (civil_day days d real)

pub day_in_range : SameDays → (d : Date) → IsRealDay d → IsEpochDay (day_of d)
day_in_range days d real = subst IsEpochDay (sym (civil_day days d real)) (epoch_day_range (civil_of d real))

-- a civil day of a year from 0 on is a real one
pub real_of : (c : CivilDate) (year : ℕ) → c.year ≡ pos year → IsRealDay (record { year = year; month = c.month; day = c.day })
real_of c year e =
    let y = c.year_in in
    record {
      year = omega (arith, ints);
      month = c.month_in.0;
      months = c.month_in.1;
      day = c.day_in.0;
      days = subst (λ (n : ℕ). c.day ≤ n) (ap (λ (z : ℤ). civil_days_in_month z c.month) e ∙ same_month year c.month) c.day_in.1;
    }

pub held_day : SameDays → (c : CivilDate) (year : ℕ) (day : ℤ) → c.year ≡ pos year → epoch_day c ≡ day
    → HoldsDay day (Ok (record { year = year; month = c.month; day = c.day }))
held_day days c year day e same = inl (
  record { year = year; month = c.month; day = c.day },
  real_of c year e,
  ap (λ (z : ℤ). iso_day_of (YMD z c.month c.day)) (sym e) ∙ (days c ∙ same),
  refl,
)

-- a day before the year 0
pub early_day : SameDays → (c : CivilDate) (day : ℤ) → c.year <ℤ pos 0 → epoch_day c ≡ day → HoldsDay day (Err Range)
unfolding civil_of
early_day days c day early same = inr (
  λ d real e. let years = (epoch_day_injective (civil_of d real) c
      (sym (civil_day days d real) ∙ (e ∙ sym same))).0 in absurd (omega (arith, ints)),
  refl,
)

-- no civil day
pub no_day : SameDays → (day : ℤ) → (IsEpochDay day → ⊥) → HoldsDay day (Err Range)
no_day days day isnt = inr (λ d real e. isnt (subst IsEpochDay e (day_in_range days d real)), refl)

same_date : SameDays → (a b : Date) → IsRealDay a → IsRealDay b → day_of a ≡ day_of b → a ≡ b
unfolding civil_of
same_date days a b ra rb e =
    let parts = epoch_day_injective (civil_of a ra) (civil_of b rb) (sym (civil_day days a ra) ∙ (e ∙ civil_day days b rb)) in
    let years : a.year ≡ b.year = let y = parts.0 in omega (arith, ints) in
    let months = parts.1 in
    let days = parts.2 in
    rw (years, months, days) refl

one_day : SameDays → (day : ℤ) (a b : Result Date Cause) → HoldsDay day a → HoldsDay day b → a ≡ b
one_day days day a b (inl h) (inl k) = h.3 ∙ (ap Ok (same_date days h.0 k.0 h.1 k.1 (h.2 ∙ sym k.2)) ∙ sym k.3)
one_day days day a b (inl h) (inr k) = absurd (k.0 h.0 h.1 h.2)
one_day days day a b (inr h) (inl k) = absurd (h.0 k.0 k.1 k.2)
one_day days day a b (inr h) (inr k) = h.1 ∙ sym k.1

one_dated : SameDays → (day : ℤ) (time : Option Time) (offset : Option Offset) (a b : Result Datetime Cause) → HoldsDated day time offset a
    → HoldsDated day time offset b → a ≡ b
one_dated days day time offset a b h k = h.2 ∙ (ap (result_map (λ (d : Date). datetime_of (Some d) time offset))
    (one_day days day h.0 k.0 h.1 k.1) ∙ sym k.2)

one_since : (a b : ℕ) → pos a ≡ pos b → a ≡ b
one_since a b h = omega (arith, ints)

-- a number of nanoseconds is in one day, so many nanoseconds since its midnight
one_moment : (nanos d e : ℤ) (m n : ℕ) → m < 86_400_000_000_000 → nanos ≡ d *ℤ pos 86_400_000_000_000 +ℤ pos m → n < 86_400_000_000_000
    → nanos ≡ e *ℤ pos 86_400_000_000_000 +ℤ pos n
    → (d ≡ e) × (m ≡ n)
one_moment nanos d e m n p h q k =
    let days : d ≡ e = omega (arith, ints) in
    (days, omega (arith, ints))

moved : (d e : ℤ) (m n : ℕ) (offset : Option Offset) (held : Result Datetime Cause) → d ≡ e → m ≡ n
    → HoldsDated d (Some (time_of m)) offset held
    → HoldsDated e (Some (time_of n)) offset held
moved d e m n offset held i j h = subst (λ (x : ℕ). HoldsDated e (Some (time_of x)) offset held) j
    (subst (λ (z : ℤ). HoldsDated z (Some (time_of m)) offset held) i h)

one_held : SameDays → (value : Value) (a b : Result Datetime Cause) → Holds value a → Holds value b → a ≡ b
one_held days (Instant nanos) a b h k =
    let one = one_moment nanos h.0 k.0 h.1 k.1 h.2 h.3 k.2 k.3 in
    one_dated days _ _ _ a b (moved _ _ _ _ (Some Z) a one.0 one.1 h.4) k.4
one_held days (Day day) a b h k = one_dated days _ _ _ a b h k
one_held days (Local day nanos) a b h k =
    one_dated days _ _ _ a b (moved day day _ _ None a refl (one_since h.0 k.0 (sym h.1 ∙ k.1)) h.2) k.2
one_held days (Clock nanos) a b h k =
    h.2 ∙ (ap (λ (n : ℕ). Ok (datetime_of None (Some (time_of n)) None)) (one_since h.0 k.0 (sym h.1 ∙ k.1)) ∙ sym k.2)
one_held days _ a b h k = h ∙ sym k

-- ---- times

pub leap : (t : Time) → unwrap_or t.second 0 ≡ 60 → clock t ≡ Err NoSuchMoment
unfolding clock
leap t e = rw e refl

pub no_leap : (t : Time) → (unwrap_or t.second 0 ≡ 60 → ⊥) → clock t ≡ Ok (pos (clock_of t))
unfolding clock
no_leap t isnt = let test : (unwrap_or t.second 0 == 60) ≡ false = grind (arith, nat_tests) in rw test refl

pub no_fraction : (nanos : ℕ) → nanos % 1_000_000_000 ≡ 0 → fraction_of nanos ≡ None
no_fraction nanos e = rw e refl

pub some_fraction : (nanos : ℕ) → (nanos % 1_000_000_000 ≡ 0 → ⊥) → fraction_of nanos ≡ Some (nanos % 1_000_000_000)
some_fraction nanos isnt = let test : (nanos % 1_000_000_000 == 0) ≡ false = grind (arith, nat_tests) in rw test refl

fraction_if : (n : ℕ) (test : Bool) → (n == 0) ≡ test → unwrap_or (cond test None (Some n)) 0 ≡ n
fraction_if n true h = let zero : n ≡ 0 = grind (arith, nat_tests) in sym zero
fraction_if n false h = refl

fraction_value : (nanos : ℕ) → unwrap_or (fraction_of nanos) 0 ≡ nanos % 1_000_000_000
fraction_value nanos = fraction_if (nanos % 1_000_000_000) (nanos % 1_000_000_000 == 0) refl

clock_parts : (n : ℕ) → ((n / 3_600_000_000_000 * 60 + n / 60_000_000_000 % 60) * 60 + n / 1_000_000_000 % 60) * 1_000_000_000
    + n % 1_000_000_000 ≡ n
clock_parts n = omega arith

clock_back : (nanos : ℕ) → clock_of (time_of nanos) ≡ nanos
clock_back nanos = ap (λ (f : ℕ). ((nanos / 3_600_000_000_000 * 60 + nanos / 60_000_000_000 % 60) * 60 + nanos / 1_000_000_000 % 60) *
    1_000_000_000 + f) (fraction_value nanos) ∙ clock_parts nanos

time_back : (nanos : ℕ) → clock (time_of nanos) ≡ Ok (pos nanos)
time_back nanos = no_leap (time_of nanos) (λ e. absurd (omega arith)) ∙ ap (λ (n : ℕ). Ok (pos n)) (clock_back nanos)

fraction_real : (second n : ℕ) (test : Bool) → second ≤ 60 → n < 10 ^ 9 → AreRealSeconds (Some second) (cond test None (Some n))
fraction_real second n true s f = s
fraction_real second n false s f = (s, f)

time_real : (nanos : ℕ) → nanos < 86_400_000_000_000 → IsRealTime (time_of nanos)
time_real nanos h = record {
  hour = omega arith;
  minute = omega arith;
  seconds = fraction_real (nanos / 1_000_000_000 % 60) (nanos % 1_000_000_000) (nanos % 1_000_000_000 == 0) (omega arith) (omega arith);
}

-- ---- what a value is worth, within the bounds

seconds_within : (second nanosecond : Option ℕ) → AreRealSeconds second nanosecond → (unwrap_or second 0 ≤ 60)
    × (unwrap_or nanosecond 0 < 10 ^ 9)
seconds_within None None h = (omega arith, omega arith)
seconds_within None (Some n) h = absurd h
seconds_within (Some s) None h = (h, omega arith)
seconds_within (Some s) (Some n) h = h

clock_bound : (t : Time) → IsRealTime t → (z : ℤ) → clock t ≡ Ok z → IsOfDay z
unfolding clock
clock_bound t real z h =
    let parts = else_ok (unwrap_or t.second 0 == 60) (Ok (pos (clock_of t))) z NoSuchMoment h in
    let some : unwrap_or t.second 0 ≢ 60 = let e = parts.0 in grind (arith, nat_tests) in
    let within = seconds_within t.second t.nanosecond real.seconds in
    let second = within.0 in
    let nanos = within.1 in
    let hour = real.hour in
    let minute = real.minute in
    let least : unwrap_or t.second 0 ≤ 59 = omega arith in
    let bound : clock_of t ≤ 86_399_999_999_999 = omega arith in
    subst IsOfDay (same_ok (pos (clock_of t)) z parts.1) (omega (arith, ints), omega (arith, ints))

offset_bound : (o : Offset) → IsOffsetInRange o → (neg_ℤ (pos 1439) ≤ℤ minutes_of o) × (minutes_of o ≤ℤ pos 1439)
offset_bound Z h = (omega (arith, ints), omega (arith, ints))
offset_bound (Custom (pos n)) h = (omega (arith, ints), omega (arith, ints))
offset_bound (Custom (negsuc n)) h = (omega (arith, ints), omega (arith, ints))

mapped_within : (make : ℤ → Value) (t : Time) → IsRealTime t → ((z : ℤ) → IsOfDay z → IsWithinBounds (make z)) → (value : Value)
    → result_map make (clock t) ≡ Ok value → IsWithinBounds value
mapped_within make t real bound value h =
    let found = map_ok make (clock t) value (sym h) in
    subst IsWithinBounds found.2 (bound found.0 (clock_bound t real found.0 found.1))

instant_within : (day minutes z : ℤ) → IsEpochDay day → (neg_ℤ (pos 1439) ≤ℤ minutes) × (minutes ≤ℤ pos 1439) → IsOfDay z
    → IsWithinBounds (Instant ((day *ℤ pos 86_400_000_000_000 +ℤ z) -ℤ minutes *ℤ pos 60_000_000_000))
instant_within day minutes z d m c = (omega (arith, ints), omega (arith, ints))

within_of : SameDays → (date : Option Date) (time : Option Time) (offset : Option Offset) (value : Value) → AreWellFormed date time offset
    → worth_of date time offset ≡ Ok value → IsWithinBounds value
within_of days (Some d) (Some t) (Some o) value (d', t', o') h =
    mapped_within (moment_of (day_of d) (Some o)) t t' (λ z c. instant_within (day_of d) (minutes_of o) z (day_in_range days d d')
    (offset_bound o o') c) value h
within_of days (Some d) (Some t) None value (d', t') h = mapped_within (moment_of (day_of d) None) t t'
    (λ z c. (day_in_range days d d', c)) value h
within_of days (Some d) None None value d' h = subst IsWithinBounds (same_ok (Day (day_of d)) value h) (day_in_range days d d')
within_of days (Some d) None (Some o) value w h = absurd w
within_of days None (Some t) None value t' h = mapped_within Clock t t' (λ z c. c) value h
within_of days None (Some t) (Some o) value w h = absurd w
within_of days None None offset value w h = absurd w

-- ---- what is held is read back

same_value : (value : Value) → Same value value
same_value (Instant nanos) = refl
same_value (Day day) = refl
same_value (Local day nanos) = refl
same_value (Clock nanos) = refl
same_value (Triple months days micros) = refl
same_value (Length nanos) = refl

since_bound : (z : ℤ) (n : ℕ) → IsOfDay z → z ≡ pos n → n < 86_400_000_000_000
since_bound z n h e = let least = h.0 in let most = h.1 in omega (arith, ints)

real_held : (day : ℤ) (date : Date) → HoldsDay day (Ok date) → IsRealDay date × (day_of date ≡ day)
real_held day date (inl h) = let same : h.0 ≡ date = sym (same_ok date h.0 h.3) in
    subst (λ (d : Date). IsRealDay d × (day_of d ≡ day)) same (h.1, h.2)
real_held day date (inr h) = absurd (let e : Ok date ≡ Err Range = h.1 in cc)

abbrev pub IsBack : Value → Datetime → Type 0
IsBack value d = IsHeldBack IsDatetime (Is worth) Holds (text_of d) value d

abbrev pub AreReadBack : Type 0
AreReadBack = (value : Datetime) → IsWellFormed value → IsDatetime (text_of value) value

back_by : AreReadBack → (value : Value) (d : Datetime) → IsWellFormed d → worth d ≡ Ok value → Holds value (Ok d) → IsBack value d
back_by back value d formed valued held = record {
  meaning = d;
  back = value;
  spelled = back d formed;
  valued = sym valued;
  same = same_value value;
  again = held;
}

dated_back : AreReadBack → (value : Value) (day : ℤ) (time : Option Time) (offset : Option Offset) (d : Datetime)
    → HoldsDated day time offset (Ok d) → Holds value (Ok d) → ((date : Date) → IsRealDay date → AreWellFormed (Some date) time offset)
    → dated_worth day time offset ≡ Ok value → IsBack value d
dated_back back value day time offset d h held formed worth_is =
    let found = map_ok (λ (date : Date). datetime_of (Some date) time offset) h.0 d h.2 in
    let P : Result Date Cause → Type 0 = λ r. HoldsDay day r in
    let date = real_held day found.0 (subst P found.1 h.1) in
    let Q : Datetime → Type 0 = λ x. Holds value (Ok x) → IsBack value x in
    let whole : Q (datetime_of (Some found.0) time offset) = λ k. back_by back value (datetime_of (Some found.0) time offset)
    (formed found.0 date.0) (ap (λ (z : ℤ). dated_worth z time offset) date.1 ∙ worth_is) k in
    subst Q found.2 whole held

local_worth : (day nanos : ℤ) (since : ℕ) → nanos ≡ pos since → dated_worth day (Some (time_of since)) None ≡ Ok (Local day nanos)
local_worth day nanos since e = ap (result_map (moment_of day None)) (time_back since) ∙ ap (λ (z : ℤ). Ok (Local day z)) (sym e)

instant_parts : (nanos day : ℤ) (since : ℕ) → nanos ≡ day *ℤ pos 86_400_000_000_000 +ℤ pos since
    → (day *ℤ pos 86_400_000_000_000 +ℤ pos since) -ℤ pos 0 *ℤ pos 60_000_000_000 ≡ nanos
instant_parts nanos day since e = omega (arith, ints)

instant_worth : (nanos day : ℤ) (since : ℕ) → nanos ≡ day *ℤ pos 86_400_000_000_000 +ℤ pos since
    → dated_worth day (Some (time_of since)) (Some Z) ≡ Ok (Instant nanos)
instant_worth nanos day since e = ap (result_map (moment_of day (Some Z))) (time_back since)
    ∙ ap (λ (z : ℤ). Ok (Instant z)) (instant_parts nanos day since e)

-- the day of a moment, and how long it is since midnight
pub instant_held : (nanos day : ℤ) (since : ℕ) (time : Time) (held : Result Datetime Cause) → HoldsDated day (Some time) (Some Z) held
    → time ≡ time_of since → day ≡ int_div_euclid nanos (pos 86_400_000_000_000)
    → since ≡ unsigned_abs (int_rem_euclid nanos (pos 86_400_000_000_000))
    → Holds (Instant nanos) held
instant_held nanos day since time held h t d r = (
  day,
  since,
  omega (arith, signed_arith),
  omega (arith, signed_arith),
  subst (λ (x : Time). HoldsDated day (Some x) (Some Z) held) t h,
)

held_back : AreReadBack → (value : Value) (d : Datetime) → IsWithinBounds value → Holds value (Ok d) → IsBack value d
held_back back (Instant nanos) d w h = dated_back back (Instant nanos) h.0 (Some (time_of h.1)) (Some Z) d h.4 h
    (λ date real. (real, time_real h.1 h.2, tt))
    (instant_worth nanos h.0 h.1 h.3)
held_back back (Day day) d w h = dated_back back (Day day) _ _ _ d h h (λ date real. real) refl
held_back back (Local day nanos) d w h = dated_back back (Local day nanos) day (Some (time_of h.0)) None d h.2 h
    (λ date real. (real, time_real h.0 (since_bound nanos h.0 w.1 h.1))) (local_worth day nanos h.0 h.1)
held_back back (Clock nanos) d w h =
    let made : Datetime = datetime_of None (Some (time_of h.0)) None in
    let same : made ≡ d = sym (same_ok d made h.2) in
    let Q : Datetime → Type 0 = λ x. Holds (Clock nanos) (Ok x) → IsBack (Clock nanos) x in
    let whole : Q made = λ k. back_by back (Clock nanos) made (time_real h.0 (since_bound nanos h.0 w h.1))
    (ap (result_map Clock) (time_back h.0) ∙ ap (λ (z : ℤ). Ok (Clock z)) (sym h.1)) k in
    subst Q same whole h
held_back back _ d w h = absurd (let e : Ok d ≡ Err Kind = h in cc)

pub toml_date_times : SameDays → ((text : List ℕ) (a b : Datetime) → IsDatetime text a → IsDatetime text b → a ≡ b)
    → ((text : List ℕ) (value : Datetime) → IsDatetime text value → IsWellFormed value) → AreReadBack → AreAscii IsDatetime
    → Lawful Toml
toml_date_times days one formed back ascii =
    lawful_by Toml IsDatetime (Is worth) Holds text_of (record {
      reads = λ text a h. h;
      read = λ text a h. h;
      writes = λ value a h. h;
      written = λ value a h. h;
    })
    (record {
      one = one;
      one_worth = one_image worth;
      one_held = one_held days;
      ascii = ascii;
      within = λ text d value spelled h. within_of days d.date d.time d.offset value (formed text d spelled) (sym h);
      back = held_back back;
    })
