-- Date-times of ISO 8601 as a form: their moments, and that the text of a moment is short and read back.
use Rattle.std.proofs.Common.{◌≡◌, ℕ, ◌+◌, ◌*◌, ◌/◌, ◌%◌, ◌^◌, ◌<◌, ◌≤◌, ◌==◌, Bool, true, false, List, ◌++◌, codes, length, Result, Ok}
use Rattle.std.proofs.Common.{◌⊎◌, Err, refl, sym, ◌∙◌, ap, subst, inl, inr, length-append, arith, ap₂, if◌then◌else◌}
use Rattle.std.specs.Prelude.{ℤ, pos, ◌+ℤ◌, ◌-ℤ◌, ◌*ℤ◌, unsigned_abs}
use Rattle.std.specs.Int.{is_negative}
use Rattle.std.proofs.lemmas.Bool.Decides.{nat_tests}
use Rattle.std.proofs.lemmas.Fmt.{length-decimal-le}
use Rattle.std.proofs.lemmas.Int.{ints}
use Rattle.jiff_core.specs.Calendar.{IsYear, IsEpochDay}
use Rattle.jiff_core.specs.DateTime.{civil_nanos, IsCivilNanos}
use Rattle.jiff_core.specs.Time.{time_nanos}
use Rattle.jiff_core.specs.declared.civil.datetime.DateTime.{DateTime as CivilDateTime}
use Rattle.jiff_core.proofs.DateLemmas.{epoch_day_injective}
use Rattle.jiff_core.proofs.DateTimeLemmas.{time_nanos_injective, civil_nanos-parts, civil_nanos_range, civil_nanos_injective}
use Rattle.scan_core.specs.Padded.{padded_digits}
use Rattle.scan_core.proofs.PaddedFacts.{length-padded}
use Rattle.jiff_core.specs.declared.civil.date.Date.{Date as CivilDate}
use Rattle.iso8601.specs.Calendar.{day_of, IsCivilDay, Exists}
use Rattle.iso8601.specs.declared.types.Date.{Date}
use Rattle.iso8601.specs.DateTimes.{IsDateTime}
use Rattle.iso8601.specs.Moments.{IsMoment, offset_of}
use Rattle.iso8601.specs.Ranges.{IsDateTimeInRange, HaveOneSign}
use Rattle.iso8601.specs.Written.{year_text, date_text, date_time_text}
use Rattle.scan_core.specs.Number.{minus}
use Rattle.iso8601.specs.declared.types.Date.TheVariants.{YMD}
use Rattle.iso8601.specs.declared.types.DateTime.{DateTime}
use Rattle.forms.specs.declared.cause.Cause.{Cause}
use Rattle.forms.specs.declared.cause.Cause.TheVariants.{Range, NoSuchMoment, Kind, Precision}
use Rattle.forms.specs.declared.form.Form.TheVariants.{IsoDateTime}
use Rattle.forms.specs.declared.value.Value.{Value}
use Rattle.forms.specs.declared.value.Value.TheVariants.{Instant, Day, Local, Clock, Triple, Length}
use Rattle.forms.specs.Values.{IsWithinBounds}
use Rattle.forms.specs.inside.CivilDates.{date_of}
use Rattle.forms.specs.form.IsoDateTime.{instant_of, IsReal, Worth, IsAt, Holds}
use Rattle.forms.specs.inside.IsoParts.{clock_of}
use Rattle.iso8601.specs.DateTimes.{IsDateTime}
use Rattle.forms.specs.inside.CivilMoments.{utc, in_millis, HoldsCivil}
use Rattle.forms.specs.inside.Lawful.{Lawful}
use Rattle.forms.proofs.IsoDates.{AreCalendarDates, date_in_range, is_civil_day, civil_bounds}
use Rattle.forms.proofs.Judging.{one_judged, judged_within, judged_none}
use Rattle.forms.proofs.Lawful.{AreAscii, then_ok, same_ok, IsHeldBack, lawful_by}

-- ---- reading

clock_same : (hour minute second millis n : ℕ) → n ≡ 1_000_000 * millis
    → ((hour * 60 + minute) * 60 + second) * 1_000_000_000 + millis * 1_000_000 ≡ (hour * 3600 + minute * 60 + second) * 1_000_000_000 + n
clock_same hour minute second millis n e = omega arith

-- the moment of a date-time in milliseconds
pub moment_value : (t : DateTime) (millis : ℤ)
    → millis ≡ (pos 86_400_000 *ℤ day_of t.date +ℤ pos (t.time.hour * 3_600_000 + t.time.minute * 60_000 + t.time.second * 1000
    + t.time.millisecond))
    -ℤ pos 1000 *ℤ offset_of t.time → millis *ℤ pos 1_000_000 ≡ instant_of t
moment_value t millis h = omega (arith, ints)

pub is_worth : (t : DateTime) → IsMoment t → Worth t (Ok (Instant (instant_of t)))
is_worth t real = inl (record { day = real.0; clock = real.2; offset = real.3 }, real.1, refl)

pub none_worth : (t : DateTime) (cause : Cause) → (IsMoment t → ⊥)
    → (IsReal t × (cause ≡ Range)) ⊎ ((IsReal t → ⊥) × (cause ≡ NoSuchMoment)) → Worth t (Err cause)
none_worth t cause isnt why = judged_none (IsReal t) (IsCivilDay (day_of t.date)) (Instant (instant_of t)) cause
    (λ real day. isnt (real.day, day, real.clock, real.offset)) why

-- ---- the text of a date is short

joined : (xs ys : List ℕ) (a b : ℕ) → length xs ≤ a → length ys ≤ b → length (xs ++ ys) ≤ a + b
joined xs ys a b h k = let sum = length-append xs ys in omega arith

small : (width n : ℕ) → width ≤ 4 → n < 10 ^ 4 → length (padded_digits width n) ≤ 4
small width n w h = let digits = length-decimal-le 4 n (omega arith) h (omega arith) in let long = length-padded width n in omega arith

minus_short : (negative : Bool) → length (minus negative) ≤ 1
minus_short true = omega arith
minus_short false = omega arith

year_short : (year : ℤ) → unsigned_abs year ≤ 9999 → length (year_text year) ≤ 5
unfolding year_text
year_short year h = joined (minus (is_negative year)) (padded_digits 4 (unsigned_abs year)) 1 4 (minus_short (is_negative year))
    (small 4 (unsigned_abs year) (omega arith) (omega arith))

date_short : (year : ℤ) (month day : ℕ) → unsigned_abs year ≤ 9999 → month < 10 ^ 4 → day < 10 ^ 4
    → length (date_text (YMD year month day)) ≤ 15
unfolding date_text
date_short year month day y m d =
    joined (year_text year) _ 5 10 (year_short year y) (joined (codes "-") _ 1 9 (omega arith)
    (joined (padded_digits 2 month) _ 4 5 (small 2 month (omega arith) m)
    (joined (codes "-") (padded_digits 2 day) 1 4 (omega arith) (small 2 day (omega arith) d))))

pub short_date : (c : CivilDate) → length (date_text (date_of c)) ≤ 28
short_date c =
    let year : IsYear c.year = c.year_in in
    let month = c.month_in.1 in
    let day = (date_in_range c).4 in
    let date = date_short c.year c.month c.day (omega (arith, ints)) (omega arith) (omega arith) in
    omega arith

-- ---- writing

pub whole_millis : (c : CivilDateTime) → c.time.subsec_nanosecond % 1_000_000 ≡ 0 → in_millis c ≡ Ok (utc c)
unfolding in_millis
whole_millis c e = rw e refl

pub part_millis : (c : CivilDateTime) → (c.time.subsec_nanosecond % 1_000_000 ≡ 0 → ⊥) → in_millis c ≡ Err Precision
unfolding in_millis
part_millis c isnt = let test : (c.time.subsec_nanosecond % 1_000_000 == 0) ≡ false = grind (arith, nat_tests) in rw test refl

pub no_civil : (nanos : ℤ) → (IsCivilNanos nanos → ⊥) → HoldsCivil (Instant nanos) (Err Range)
no_civil nanos isnt = inr (isnt, refl)

same_millis : (a b : CivilDateTime) → civil_nanos a ≡ civil_nanos b → in_millis a ≡ in_millis b
unfolding in_millis
same_millis a b e =
    let both = civil_nanos_injective a b e in
    let date = epoch_day_injective a.date b.date both.0 in
    let time = time_nanos_injective a.time b.time both.1 in
    rw (date.0, date.1, date.2, time.0, time.1, time.2, time.3) refl

is_real : AreCalendarDates → (c : CivilDateTime) → IsReal (utc c)
is_real laws c =
    let hour = c.time.hour_in in
    let minute = c.time.minute_in in
    let second = c.time.second_in in
    let subsec = c.time.subsec_in in
    record { day = laws.exists c.date; clock = (hour, minute, second, omega arith); offset = omega (arith, ints) }

clock_within : (hour minute second subsec : ℕ)
    → (((hour * 60 + minute) * 60 + second) * 1_000_000_000 + subsec / 1_000_000 * 1_000_000) + subsec % 1_000_000
    ≡ (hour * 3600 + minute * 60 + second) * 1_000_000_000 + subsec
clock_within hour minute second subsec = omega arith

-- a civil date-time is at its moment
at_civil : AreCalendarDates → (c : CivilDateTime) (nanos : ℤ) → civil_nanos c ≡ nanos
    → IsAt nanos (utc c) (c.time.subsec_nanosecond % 1_000_000)
at_civil laws c nanos same =
    let year : IsYear c.date.year = c.date.year_in in
    let parts = civil_nanos-parts c in
    let day = laws.day c.date in
    let times : clock_of (utc c).time + c.time.subsec_nanosecond % 1_000_000
    ≡ time_nanos c.time = clock_within c.time.hour c.time.minute c.time.second c.time.subsec_nanosecond in
    record {
      year = c.date.year;
      month = c.date.month;
      day = c.date.day;
      date = refl;
      years = omega (arith, ints);
      hours = refl;
      minutes = refl;
      real = is_real laws c;
      below = omega arith;
      same = omega (arith, ints);
    }

-- the civil date-time of a moment in a date-time's millisecond
pub record HasCivilTime (nanos : ℤ) (t : DateTime) (part : ℕ) : Type 0 where
  pub civil : CivilDateTime
  pub same : civil_nanos civil ≡ nanos
  pub utc_is : utc civil ≡ t
  pub part_is : civil.time.subsec_nanosecond % 1_000_000 ≡ part

same_utc : (t : DateTime) (d : Date) (millis : ℕ) (hours minutes : ℤ) → d ≡ t.date → millis ≡ t.time.millisecond
    → hours ≡ t.time.tz_offset_hours
    → minutes ≡ t.time.tz_offset_minutes
    → (record {
      date = d;
      time = record {
        hour = t.time.hour;
        minute = t.time.minute;
        second = t.time.second;
        millisecond = millis;
        tz_offset_hours = hours;
        tz_offset_minutes = minutes;
      };
    }) ≡ t
same_utc t d millis hours minutes e f g h = rw (e, f, g, h) refl

civil_at : AreCalendarDates → (nanos : ℤ) (t : DateTime) (part : ℕ) → IsAt nanos t part → HasCivilTime nanos t part
civil_at laws nanos t part at =
    let exists : Exists (YMD at.year at.month at.day) = subst Exists at.date at.real.day in
    let clock = at.real.clock in
    let years = at.years in
    let below = at.below in
    let d : CivilDate = record {
      year = at.year;
      month = at.month;
      day = at.day;
      year_in = (omega (arith, ints), omega (arith, ints));
      month_in = (exists.0, exists.1);
      day_in = (exists.2, exists.3);
    } in
    let c : CivilDateTime = record {
      date = d;
      time = record {
        hour = t.time.hour;
        minute = t.time.minute;
        second = t.time.second;
        subsec_nanosecond = t.time.millisecond * 1_000_000 + part;
        hour_in = clock.0;
        minute_in = clock.1;
        second_in = clock.2;
        subsec_in = omega (arith, clock.3);
      };
    } in
    let millis : (t.time.millisecond * 1_000_000 + part) / 1_000_000 ≡ t.time.millisecond = omega arith in
    let rest : (t.time.millisecond * 1_000_000 + part) % 1_000_000 ≡ part = omega arith in
    let is : utc c ≡ t = same_utc t (YMD at.year at.month at.day) _ (pos 0) (pos 0) (sym at.date) millis (sym at.hours) (sym at.minutes) in
    let own = (at_civil laws c (civil_nanos c) refl).same in
    let moment : instant_of (utc c) ≡ instant_of t = ap instant_of is in
    let whole : instant_of (utc c) +ℤ pos ((t.time.millisecond * 1_000_000 + part) % 1_000_000) ≡ civil_nanos c = own in
    record { civil = c; same = sym whole ∙ (ap₂ (λ (z : ℤ) (n : ℕ). z +ℤ pos n) moment rest ∙ at.same); utc_is = is; part_is = rest }

-- what is held by the civil date-time is held
pub from_civil : AreCalendarDates → (nanos : ℤ) (held : Result DateTime Cause) → HoldsCivil (Instant nanos) held
    → Holds (Instant nanos) held
unfolding in_millis
from_civil laws nanos held (inl (c, same, is)) = inl (utc c, c.time.subsec_nanosecond % 1_000_000, at_civil laws c nanos same, is)
from_civil laws nanos held (inr (isnt, is)) =
    inr ((λ t part at. let c = civil_at laws nanos t part at in isnt (subst IsCivilNanos c.same (civil_nanos_range c.civil))), is)

-- and the other way round, where a date-time is there
abbrev AtCivil : ℤ → Result DateTime Cause → Type 0
AtCivil nanos held = (c : CivilDateTime) × (civil_nanos c ≡ nanos) × (held ≡ in_millis c)

to_civil : AreCalendarDates → (nanos : ℤ) (held : Result DateTime Cause) (t : DateTime) (part : ℕ) → IsAt nanos t part
    → held ≡ (if part == 0 then Ok t else Err Precision)
    → AtCivil nanos held
unfolding in_millis
to_civil laws nanos held t part at is =
    let c = civil_at laws nanos t part at in
    let same : (if part == 0 then Ok t else Err Precision) ≡ in_millis c.civil = rw (c.part_is, c.utc_is) refl in
    (c.civil, c.same, is ∙ same)

one_moment : AreCalendarDates → (nanos : ℤ) (a b : Result DateTime Cause) → Holds (Instant nanos) a → Holds (Instant nanos) b → a ≡ b
one_moment laws nanos a b (inl (t, part, at, is)) (inl (u, rest, here, so)) =
    let h = to_civil laws nanos a t part at is in
    let k = to_civil laws nanos b u rest here so in
    h.2 ∙ (same_millis h.0 k.0 (h.1 ∙ sym k.1) ∙ sym k.2)
one_moment laws nanos a b (inl (t, part, at, is)) (inr k) = absurd (k.0 t part at)
one_moment laws nanos a b (inr h) (inl (t, part, at, is)) = absurd (h.0 t part at)
one_moment laws nanos a b (inr h) (inr k) = h.1 ∙ sym k.1

one_held : AreCalendarDates → (value : Value) (a b : Result DateTime Cause) → Holds value a → Holds value b → a ≡ b
one_held laws (Instant nanos) a b h k = one_moment laws nanos a b h k
one_held laws (Day day) a b h k = h ∙ sym k
one_held laws (Local day nanos) a b h k = h ∙ sym k
one_held laws (Clock nanos) a b h k = h ∙ sym k
one_held laws (Triple months days micros) a b h k = h ∙ sym k
one_held laws (Length nanos) a b h k = h ∙ sym k

-- ---- the laws

in_millis_held : (c : CivilDateTime) (t : DateTime) → in_millis c ≡ Ok t → (c.time.subsec_nanosecond % 1_000_000 ≡ 0) × (utc c ≡ t)
unfolding in_millis
in_millis_held c t h =
    let parts = then_ok (c.time.subsec_nanosecond % 1_000_000 == 0) (Ok (utc c)) t Precision h in
    let whole : c.time.subsec_nanosecond % 1_000_000 ≡ 0 = let e = parts.0 in grind (arith, nat_tests) in
    (whole, same_ok (utc c) t parts.1)

in_range : (c : CivilDateTime) → IsDateTimeInRange (utc c)
in_range c =
    let hour = c.time.hour_in in
    let minute = c.time.minute_in in
    let second = c.time.second_in in
    let subsec = c.time.subsec_in in
    let date = date_in_range c.date in
    let signs : HaveOneSign (pos 0) (pos 0) = inl (omega (arith, ints), omega (arith, ints)) in
    (date, (omega arith, omega arith, omega arith, omega arith, omega (arith, ints), omega (arith, ints), signs))

utc_value : AreCalendarDates → (c : CivilDateTime) → c.time.subsec_nanosecond % 1_000_000 ≡ 0 → instant_of (utc c) ≡ civil_nanos c
utc_value laws c whole =
    let parts = civil_nanos-parts c in
    let day = laws.day c.date in
    let millis : c.time.subsec_nanosecond ≡ 1_000_000 * (c.time.subsec_nanosecond / 1_000_000) = omega arith in
    let times : clock_of (utc c).time ≡ time_nanos c.time = clock_same c.time.hour c.time.minute c.time.second
    (c.time.subsec_nanosecond / 1_000_000) c.time.subsec_nanosecond millis in
    omega (arith, ints)

held_back : AreCalendarDates → ((t : DateTime) → IsDateTimeInRange t → IsDateTime (date_time_text t) t) → (value : Value) (t : DateTime)
    → IsWithinBounds value → Holds value (Ok t) → IsHeldBack IsDateTime Worth Holds (date_time_text t) value t
held_back laws spelled (Instant nanos) t w (inl (u, part, at, is)) =
    let h = to_civil laws nanos (Ok t) u part at is in
    let found = in_millis_held h.0 t (sym h.2) in
    let P : DateTime → Type 0 = λ x. IsHeldBack IsDateTime Worth Holds (date_time_text x) (Instant nanos) x in
    let whole : P (utc h.0) = record {
      meaning = utc h.0;
      back = Instant nanos;
      spelled = spelled (utc h.0) (in_range h.0);
      valued = inl (is_real laws h.0, is_civil_day laws h.0.date, ap (λ (z : ℤ). Ok (Instant z)) (sym (utc_value laws h.0 found.0 ∙ h.1)));
      same = refl;
      again = from_civil laws nanos (Ok (utc h.0)) (inl (h.0, h.1, sym (whole_millis h.0 found.0)));
    } in
    subst P found.1 whole
held_back laws spelled (Instant nanos) t w (inr h) = absurd (let e : Ok t ≡ Err Range = h.1 in cc)
held_back laws spelled (Day day) t w h = absurd (let e : Ok t ≡ Err Kind = h in cc)
held_back laws spelled (Local day nanos) t w h = absurd (let e : Ok t ≡ Err Kind = h in cc)
held_back laws spelled (Clock nanos) t w h = absurd (let e : Ok t ≡ Err Kind = h in cc)
held_back laws spelled (Triple months days micros) t w h = absurd (let e : Ok t ≡ Err Kind = h in cc)
held_back laws spelled (Length nanos) t w h = absurd (let e : Ok t ≡ Err Kind = h in cc)

instant_within : (day offset : ℤ) (clock : ℕ) → IsEpochDay day → unsigned_abs offset < 86_400 → clock < 86_400_000_000_000
    → IsWithinBounds (Instant ((day *ℤ pos 86_400_000_000_000 +ℤ pos clock) -ℤ offset *ℤ pos 1_000_000_000))
instant_within day offset clock d o c = (omega (arith, ints), omega (arith, ints))

clock_bound : (hour minute second millis : ℕ) → hour < 24 → minute < 60 → second < 60 → millis < 1000
    → ((hour * 60 + minute) * 60 + second) * 1_000_000_000 + millis * 1_000_000 < 86_400_000_000_000
clock_bound hour minute second millis h m s f = omega arith

real_within : AreCalendarDates → (t : DateTime) → IsReal t → IsCivilDay (day_of t.date) → IsWithinBounds (Instant (instant_of t))
real_within laws t real day = instant_within (day_of t.date) (offset_of t.time) (clock_of t.time)
    (civil_bounds laws (day_of t.date) day) real.offset (clock_bound t.time.hour t.time.minute t.time.second t.time.millisecond real.clock.0
    real.clock.1 real.clock.2 real.clock.3)

pub iso_date_times : ((text : List ℕ) (a b : DateTime) → IsDateTime text a → IsDateTime text b → a ≡ b)
    → ((t : DateTime) → IsDateTimeInRange t → IsDateTime (date_time_text t) t) → AreCalendarDates → AreAscii IsDateTime
    → Lawful IsoDateTime
iso_date_times one spelled laws ascii =
    lawful_by IsoDateTime IsDateTime Worth Holds date_time_text
    (record { reads = λ text a h. h; read = λ text a h. h; writes = λ value a h. h; written = λ value a h. h })
    (record {
      one = one;
      one_worth = λ t a b h k. one_judged (IsReal t) (IsCivilDay (day_of t.date)) (Instant (instant_of t)) a b h k;
      one_held = one_held laws;
      ascii = ascii;
      within = λ text t value spelled h. judged_within (IsReal t) (IsCivilDay (day_of t.date)) (Instant (instant_of t)) value
          (real_within laws t) h;
      back = held_back laws spelled;
    })
