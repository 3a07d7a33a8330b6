-- Each instant of whole milliseconds in the civil years has a written text.
use Rattle.std.proofs.Common.{◌≡◌, inl, ℕ, ◌+◌, ◌*◌, ◌/◌, ◌%◌, List, [], ◌∷◌, ◌++◌, codes, ℤ, pos, Result, Ok, Err, refl, arith}
use Rattle.std.proofs.lemmas.Int.{ints}
use Rattle.jiff_core.specs.Calendar.{IsYear}
use Rattle.jiff_core.specs.Time.{time_nanos}
use Rattle.jiff_core.specs.DateTime.{civil_nanos}
use Rattle.jiff_core.specs.declared.civil.datetime.DateTime.{DateTime as CivilDateTime}
use Rattle.jiff_core.proofs.DateTimeLemmas.{civil_nanos-parts}
use Rattle.forms.specs.Forms.{Writes}
use Rattle.forms.specs.Putting.{IsPut, Puts}
use Rattle.forms.specs.declared.cause.Cause.{Cause}
use Rattle.forms.specs.declared.form.Form.TheVariants.{IsoDateTime}
use Rattle.forms.specs.declared.value.Value.TheVariants.{Instant}
use Rattle.iso8601.specs.declared.types.Date.TheVariants.{YMD}
use Rattle.iso8601.specs.declared.types.Time.{Time}
use Rattle.iso8601.specs.declared.types.DateTime.{DateTime}
use Rattle.forms.specs.form.IsoDateTime.{IsAt as IsMomentAt}
use Rattle.recurrence.specs.inside.Steps.{AreCalendarDates}
use Rattle.scan_core.specs.Join.{IsJoin}
use Rattle.recurrence.specs.Replies.{IsInstantLine}
use Rattle.recurrence.specs.inside.Waiting.{Gains}
use Rattle.recurrence.specs.inside.Written.{IsInMillis, IsWritable, AreWritable}
use Rattle.recurrence.proofs.CivilDays.{each_civil_instant}

-- the time of day, in nanoseconds
abbrev clock_of : Time → ℕ
clock_of t = ((t.hour * 60 + t.minute) * 60 + t.second) * 1_000_000_000 + t.millisecond * 1_000_000

-- with offset `+00:00`
abbrev utc : CivilDateTime → DateTime
utc c = record {
  date = YMD c.date.year c.date.month c.date.day;
  time = record {
    hour = c.time.hour;
    minute = c.time.minute;
    second = c.time.second;
    millisecond = c.time.subsec_nanosecond / 1_000_000;
    tz_offset_hours = pos 0;
    tz_offset_minutes = pos 0;
  };
}

whole_subsec : (c : CivilDateTime) (z : ℤ) → civil_nanos c ≡ z → IsInMillis z → c.time.subsec_nanosecond % 1_000_000 ≡ 0
whole_subsec c z e h = let parts = civil_nanos-parts c in let whole = h.1 in omega (arith, ints, parts, e, whole)

clock_same : (hour minute second subsec : ℕ) → subsec % 1_000_000 ≡ 0
    → ((hour * 60 + minute) * 60 + second) * 1_000_000_000 + subsec / 1_000_000 * 1_000_000
    ≡ (hour * 3600 + minute * 60 + second) * 1_000_000_000 + subsec
clock_same hour minute second subsec whole = omega (arith, whole)

-- the date-time in UTC of a civil date-time is at its moment
at_moment : AreCalendarDates → (c : CivilDateTime) (z : ℤ) → civil_nanos c ≡ z → c.time.subsec_nanosecond % 1_000_000 ≡ 0
    → IsMomentAt z (utc c) 0
at_moment laws c z is whole =
    let year : IsYear c.date.year = c.date.year_in in
    let parts = civil_nanos-parts c in
    let day = laws.day c.date in
    let hour = c.time.hour_in in
    let minute = c.time.minute_in in
    let second = c.time.second_in in
    let subsec = c.time.subsec_in in
    let times : clock_of (utc c).time ≡ time_nanos c.time = clock_same c.time.hour c.time.minute c.time.second c.time.subsec_nanosecond
    whole in
    record {
      year = c.date.year;
      month = c.date.month;
      day = c.date.day;
      date = refl;
      years = omega (arith, ints);
      hours = refl;
      minutes = refl;
      real = record { day = laws.exists c.date; clock = (hour, minute, second, omega arith); offset = omega (arith, ints) };
      below = omega arith;
      same = omega (arith, ints);
    }

-- the text of an instant
pub has_text : AreCalendarDates → (z : ℤ) → IsWritable z → (text : List ℕ) × Writes IsoDateTime (Instant z) (Ok text)
has_text laws z h =
    let c = each_civil_instant z h.0 in
    let at = at_moment laws c.0 z c.1 (whole_subsec c.0 z c.1 h.1) in
    (_, (Ok (utc c.0), inl (utc c.0, 0, at, refl), refl))

pub has_line : AreCalendarDates → (z : ℤ) → IsWritable z → (line : List ℕ) × IsInstantLine line z
has_line laws z h = let text = has_text laws z h in (text.0 ++ codes "\n", (text.0, text.1, refl))

-- what a writer put there where it refused nothing
gained_by : (P : Result (List ℕ) Cause → Type 0) (answer : Result (List ℕ) Cause) (before after : List ℕ) → P answer
    → IsPut answer before after (Ok tt) → Gains (λ text. P (Ok text)) before after
gained_by P (Ok text) before after is put = (text, is, put.1)
gained_by P (Err cause) before after is put = absurd (let e : Ok tt ≡ Err cause = put.0 in cc)

pub gained : (P : Result (List ℕ) Cause → Type 0) (before after : List ℕ) → Puts P before after (Ok tt)
    → Gains (λ text. P (Ok text)) before after
gained P before after puts = gained_by P puts.answer before after puts.is puts.put

-- no writer refuses where there is a text
refuses_none : (P : Result (List ℕ) Cause → Type 0) → ((a b : Result (List ℕ) Cause) → P a → P b → a ≡ b)
    → (text before after : List ℕ) (cause : Cause) → P (Ok text) → (answer : Result (List ℕ) Cause) → P answer
    → IsPut answer before after (Err cause) → ⊥
refuses_none P one text before after cause has (Ok other) is put = let e : Err cause ≡ Ok tt = put.0 in cc
refuses_none P one text before after cause has (Err other) is put = let e : Ok text ≡ Err other = one (Ok text) (Err other) has is in cc

pub not_refused : (P : Result (List ℕ) Cause → Type 0) → ((a b : Result (List ℕ) Cause) → P a → P b → a ≡ b)
    → (text before after : List ℕ) (cause : Cause) → P (Ok text) → Puts P before after (Err cause) → ⊥
not_refused P one text before after cause has puts = refuses_none P one text before after cause has puts.answer puts.is puts.put

-- the texts of instants, each on a line of its own
pub have_texts : AreCalendarDates → (instants : List ℤ) → AreWritable instants → (text : List ℕ) × IsJoin IsInstantLine text instants
have_texts laws [] h = ([], refl)
have_texts laws (z ∷ more) h =
    let first = has_text laws z h.0 in
    let rest = have_texts laws more h.1 in
    ((first.0 ++ codes "\n") ++ rest.0, (first.0 ++ codes "\n", rest.0, (first.0, first.1, refl), rest.1, refl))
