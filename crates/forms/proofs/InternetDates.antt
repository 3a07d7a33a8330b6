-- Dates of HTTP and of mail as forms: their moments, what is held of a value, and that it is read back. What is said is said of any grammar.
use Rattle.std.proofs.Common.{◌≡◌, ◌≢◌, ◌⊎◌, ℕ, ◌+◌, ◌*◌, ◌<◌, ◌≤◌, List, Result, Ok, Err, refl, sym, ◌∙◌, ap, subst, inl, inr, arith}
use Rattle.std.specs.Prelude.{ℤ, pos, ◌+ℤ◌, ◌-ℤ◌, ◌*ℤ◌, unsigned_abs, IsSome}
use Rattle.std.specs.Int.{int_div_euclid, int_rem_euclid}
use Rattle.std.proofs.lemmas.Int.{ints}
use Rattle.jiff_core.proofs.SignedLemmas.{signed_arith}
use Rattle.jiff_core.specs.Calendar.{IsEpochDay}
use Rattle.jiff_core.specs.Date.{epoch_day}
use Rattle.jiff_core.specs.declared.civil.date.Date.{Date as CivilDate}
use Rattle.jiff_core.proofs.DateLemmas.{epoch_day_range}
use Rattle.iso8601.specs.Calendar.{day_of, Exists}
use Rattle.iso8601.specs.declared.types.Date.TheVariants.{YMD}
use Rattle.internet_dates.specs.DateTimes.{IsNamedDateAt, IsRealMoment, clock_of, number_of_day, seconds_of}
use Rattle.internet_dates.specs.Readings.{IsRead}
use Rattle.internet_dates.specs.declared.date_time.DateTime.{DateTime}
use Rattle.internet_dates.specs.declared.error.DateError.{DateError}
use Rattle.internet_dates.specs.declared.error.DateError.TheVariants as date
use Rattle.forms.specs.declared.cause.Cause.{Cause}
use Rattle.forms.specs.declared.cause.Cause.TheVariants.{Range, Kind, Precision}
use Rattle.forms.specs.declared.form.Form.{Form}
use Rattle.forms.specs.declared.value.Value.{Value}
use Rattle.forms.specs.declared.value.Value.TheVariants.{Instant, Day, Local, Clock, Triple, Length}
use Rattle.forms.specs.Answers.{ReadsBy}
use Rattle.forms.specs.Values.{IsWithinBounds}
use Rattle.forms.specs.form.InternetDates.{Holds, HoldsSecond, Worth}
use Rattle.forms.specs.inside.InternetParts.{answered}
use Rattle.forms.specs.inside.Lawful.{Lawful}
use Rattle.forms.proofs.Judging.{one_judged, judged_within}
use Rattle.forms.proofs.Lawful.{AreAscii, HasRows, IsHeldBack, lawful_by}

-- ---- reading

-- what the crate below reads is what the form reads
pub reads : (Spells : List ℕ → DateTime → Type 0) (first : ℕ) (text : List ℕ) (read : Result ℤ DateError) → IsRead Spells first text read
    → ReadsBy Spells (Worth first) text (answered read)
reads Spells first text (Ok seconds) (t, spelled, real, least, same) =
    inl (t, spelled, inl (real, least, ap (λ (z : ℤ). Ok (Instant (z *ℤ pos 1_000_000_000))) same))
reads Spells first text (Err date.Syntax) h = inr (h, refl)
reads Spells first text (Err date.NoSuchMoment) (t, spelled, isnt) = inl (t, spelled, inr (inl (isnt, refl)))
reads Spells first text (Err date.Range) (t, spelled, real, early) =
    inl (t, spelled, inr (inr (real, (λ least. omega (arith, early, least)), refl)))

-- what the law of the crate below says of civil dates
abbrev pub SameDays : Type 0
SameDays = (d : CivilDate) → day_of (YMD d.year d.month d.day) ≡ epoch_day d

day_within : SameDays → (year month day : ℕ) → year ≤ 9999 → Exists (YMD (pos year) month day) → IsEpochDay (day_of (YMD (pos year) month day))
day_within days year month day most exists =
    let d : CivilDate = record {
      year = pos year;
      month = month;
      day = day;
      year_in = (omega (arith, ints), omega (arith, ints));
      month_in = (exists.0, exists.1);
      day_in = (exists.2, exists.3);
    } in
    subst IsEpochDay (sym (days d)) (epoch_day_range d)

clock_bound : (hour minute second : ℕ) → hour < 24 → minute < 60 → second < 60 → (hour * 60 + minute) * 60 + second < 86_400
clock_bound hour minute second h m s = omega arith

seconds_within : (day offset : ℤ) (clock : ℕ) → IsEpochDay day → unsigned_abs offset < 1440 → clock < 86_400
    → IsWithinBounds (Instant (((day *ℤ pos 86_400 +ℤ pos clock) -ℤ offset *ℤ pos 60) *ℤ pos 1_000_000_000))
seconds_within day offset clock d o c = (omega (arith, ints), omega (arith, ints))

moment_within : SameDays → (t : DateTime) → IsRealMoment t → IsWithinBounds (Instant (seconds_of t *ℤ pos 1_000_000_000))
moment_within days t real = seconds_within (number_of_day t) t.offset (clock_of t) (day_within days t.year t.month t.day real.year real.day)
    real.offset (clock_bound t.hour t.minute t.second real.hour real.minute real.second)

-- ---- writing

-- what the law of the crate below says: a moment has one date and time
abbrev pub HasOneDate : Type 0
HasOneDate = (first : ℕ) (seconds : ℤ) (a b : DateTime) → IsNamedDateAt first seconds a → IsNamedDateAt first seconds b → a ≡ b

-- what is held of the second
abbrev IsHeldAt : ℤ → DateTime → Result DateTime Cause → Type 0
IsHeldAt nanos t held = ((nanos ≢ pos 0) × (held ≡ Err Precision)) ⊎ ((nanos ≡ pos 0) × (held ≡ Ok t))

one_at : (nanos : ℤ) (t : DateTime) (a b : Result DateTime Cause) → IsHeldAt nanos t a → IsHeldAt nanos t b → a ≡ b
one_at nanos t a b (inl h) (inl k) = h.1 ∙ sym k.1
one_at nanos t a b (inl h) (inr k) = absurd (h.0 k.0)
one_at nanos t a b (inr h) (inl k) = absurd (k.0 h.0)
one_at nanos t a b (inr h) (inr k) = h.1 ∙ sym k.1

one_second : HasOneDate → (first : ℕ) (seconds nanos : ℤ) (a b : Result DateTime Cause) → HoldsSecond first seconds nanos a
    → HoldsSecond first seconds nanos b → a ≡ b
one_second one first seconds nanos a b (inl h) (inl k) = h.1 ∙ sym k.1
one_second one first seconds nanos a b (inl h) (inr (t, at, held)) = absurd (h.0 t at)
one_second one first seconds nanos a b (inr (t, at, held)) (inl k) = absurd (k.0 t at)
one_second one first seconds nanos a b (inr (t, at, held)) (inr (u, here, told)) =
    one_at nanos u a b (subst (λ (x : DateTime). IsHeldAt nanos x a) (one first seconds t u at here) held) told

one_held : HasOneDate → (first : ℕ) (value : Value) (a b : Result DateTime Cause) → Holds first value a → Holds first value b → a ≡ b
one_held one first (Instant nanos) a b h k = one_second one first _ _ a b h k
one_held one first (Day day) a b h k = h ∙ sym k
one_held one first (Local day nanos) a b h k = h ∙ sym k
one_held one first (Clock nanos) a b h k = h ∙ sym k
one_held one first (Triple months days micros) a b h k = h ∙ sym k
one_held one first (Length nanos) a b h k = h ∙ sym k

-- ---- what is held is read back

held_second : (first : ℕ) (seconds nanos : ℤ) (t : DateTime) → HoldsSecond first seconds nanos (Ok t)
    → IsNamedDateAt first seconds t × (nanos ≡ pos 0)
held_second first seconds nanos t (inl h) = absurd (let e : Ok t ≡ Err Range = h.1 in cc)
held_second first seconds nanos t (inr (u, at, inl h)) = absurd (let e : Ok t ≡ Err Precision = h.1 in cc)
held_second first seconds nanos t (inr (u, at, inr h)) =
    (subst (IsNamedDateAt first seconds) (let e : Ok t ≡ Ok u = h.1 in cc) at, h.0)

whole_second : (nanos : ℤ) → int_rem_euclid nanos (pos 1_000_000_000) ≡ pos 0
    → nanos ≡ int_div_euclid nanos (pos 1_000_000_000) *ℤ pos 1_000_000_000
whole_second nanos zero = omega (arith, signed_arith)

-- what the law of the crate below says: the written text of such a date spells it
abbrev pub IsSpelledBack : (List ℕ → DateTime → Type 0) → (DateTime → List ℕ) → Type 0
IsSpelledBack Spells text_of = (t : DateTime) → IsRealMoment t → IsSome t.weekday → t.offset ≡ pos 0 → Spells (text_of t) t

held_back : (Spells : List ℕ → DateTime → Type 0) (text_of : DateTime → List ℕ) (first : ℕ) → IsSpelledBack Spells text_of
    → (value : Value) (t : DateTime) → Holds first value (Ok t)
    → IsHeldBack Spells (Worth first) (Holds first) (text_of t) value t
held_back Spells text_of first back (Instant nanos) t h =
    let held = held_second first _ _ t h in
    let at = held.0 in
    let same : nanos ≡ seconds_of t *ℤ pos 1_000_000_000 = whole_second nanos held.1
    ∙ ap (λ (z : ℤ). z *ℤ pos 1_000_000_000) (sym at.same) in
    record {
      meaning = t;
      back = Instant nanos;
      spelled = back t at.real at.named at.utc;
      valued = inl (at.real, at.least, ap (λ (z : ℤ). Ok (Instant z)) same);
      same = refl;
      again = h;
    }
held_back Spells text_of first back (Day day) t h = absurd (let e : Ok t ≡ Err Kind = h in cc)
held_back Spells text_of first back (Local day nanos) t h = absurd (let e : Ok t ≡ Err Kind = h in cc)
held_back Spells text_of first back (Clock nanos) t h = absurd (let e : Ok t ≡ Err Kind = h in cc)
held_back Spells text_of first back (Triple months days micros) t h = absurd (let e : Ok t ≡ Err Kind = h in cc)
held_back Spells text_of first back (Length nanos) t h = absurd (let e : Ok t ≡ Err Kind = h in cc)

-- ---- the laws

pub dates : (form : Form) (Spells : List ℕ → DateTime → Type 0) (text_of : DateTime → List ℕ) (first : ℕ)
    → HasRows form Spells (Worth first) (Holds first) text_of
    → ((text : List ℕ) (a b : DateTime) → Spells text a → Spells text b → a ≡ b) → HasOneDate → IsSpelledBack Spells text_of → SameDays
    → AreAscii Spells → Lawful form
dates form Spells text_of first rows one one_date back days ascii =
    lawful_by form Spells (Worth first) (Holds first) text_of rows
    (record {
      one = one;
      one_worth = λ t a b h k. one_judged (IsRealMoment t) (first ≤ t.year) (Instant (seconds_of t *ℤ pos 1_000_000_000)) a b h k;
      one_held = one_held one_date first;
      ascii = ascii;
      within = λ text t value spelled h. judged_within (IsRealMoment t) (first ≤ t.year) (Instant (seconds_of t *ℤ pos 1_000_000_000)) value
          (λ real least. moment_within days t real) h;
      back = λ value t w h. held_back Spells text_of first back value t h;
    })
