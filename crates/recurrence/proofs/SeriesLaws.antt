-- Laws of the instants of a series.
use Rattle.std.proofs.Common.{◌≡◌, ℕ, zero, suc, ◌+◌, ◌≤◌, List, [], ◌∷◌, ℤ, pos, ◌+ℤ◌, ◌*ℤ◌, Option, Some, None, refl, sym, ap}
use Rattle.std.proofs.Common.{subst, true≢false, ◌∙◌, arith}
use Rattle.std.specs.Prelude.{slice_get}
use Rattle.std.specs.Option.{is_some}
use Rattle.std.proofs.lemmas.Int.{ints}
use Rattle.std.proofs.Math.IntN.{suc_ℤ-*ℤ, zero-*ℤ}
use Rattle.jiff_core.specs.Time.{time_nanos}
use Rattle.jiff_core.proofs.CalendarLemmas.{days_in_month_bounds}
use Rattle.scan_core.specs.Calendar.{days_in_month}
use Rattle.iso8601.specs.Calendar.{day_of, Exists}
use Rattle.iso8601.specs.declared.types.Date.TheVariants.{YMD}
use Rattle.pg_interval_2.specs.declared.interval.Interval.{Interval}
use Rattle.recurrence.specs.Instants.{IsInDay, IsCivilInstant, IsCivilYear, IsOnDate, IsMonthLater, held_day, nanos_of, LeadsTo, IsAt}
use Rattle.recurrence.specs.Series.{AreAt}
use Rattle.recurrence.specs.inside.Steps.{AreCalendarDates}
use Rattle.recurrence.proofs.CivilDays.{each_civil_instant}
use Rattle.recurrence.proofs.Starts.{one_date, civil_bounds, on_date, same_month}

-- ---- each instant has its place

none_is_no_some : (x : ℤ) → None ≡ Some x → ⊥
none_is_no_some x h = true≢false (sym (ap is_some h))

abbrev value_in : ℤ → Option ℤ → ℤ
value_in other None = other
value_in other (Some x) = x

pub at_places : (start : ℤ) (step : Interval) (first : ℕ) (instants : List ℤ) → AreAt start step first instants → (k : ℕ) (x : ℤ)
    → slice_get instants k ≡ Some x → IsAt start step (first + k) (Some x)
at_places start step first [] h k x is = absurd (none_is_no_some x is)
at_places start step first (y ∷ more) h zero x is = let here : first ≡ first + 0 = omega arith in
    subst (λ (n : ℕ). IsAt start step n (Some x)) here (subst (λ (z : ℤ). IsAt start step first (Some z)) (ap (value_in x) is) h.0)
at_places start step first (y ∷ more) h (suc k) x is =
    let there : (first + 1) + k ≡ first + suc k = omega arith in
    subst (λ (n : ℕ). IsAt start step n (Some x)) there (at_places start step (first + 1) more h.1 k x is)

-- ---- products

times_zero : (k : ℕ) (z : ℤ) → z ≡ pos 0 → pos k *ℤ z ≡ pos 0
times_zero zero z h = zero-*ℤ z
times_zero (suc k) z h = let before = times_zero k z h in let more = suc_ℤ-*ℤ (pos k) z in omega (arith, ints, before, more, h)

no_nanos : (step : Interval) (k : ℕ) → step.days ≡ pos 0 → step.microseconds ≡ pos 0 → nanos_of step k ≡ pos 0
no_nanos step k days micros = let d = times_zero k step.days days in let m = times_zero k step.microseconds micros in rw (d, m) refl

more_times : (k : ℕ) (z : ℤ) → pos (k + 1) *ℤ z ≡ pos k *ℤ z +ℤ z
more_times k z = let e : k + 1 ≡ suc k = omega arith in rw e (let more = suc_ℤ-*ℤ (pos k) z in omega (arith, ints, more))

-- ---- without months

same_again : (year later : ℤ) (month later_month : ℕ) (months : ℤ) → months ≡ pos 0 → 1 ≤ month → month ≤ 12
    → IsMonthLater months year month later later_month → (later ≡ year) × (later_month ≡ month)
same_again year later month later_month months none first last h =
    same_month months year later year month later_month month h (record { first = first; last = last; same = omega (arith, ints, none) })

held_same : (year : ℤ) (month day : ℕ) → day ≤ days_in_month year month → held_day year month day ≡ day
held_same year month day h = omega (arith, h)

same_date : (year later : ℤ) (month later_month day : ℕ) → later ≡ year → later_month ≡ month → day ≤ days_in_month year month
    → day_of (YMD later later_month (held_day later later_month day)) ≡ day_of (YMD year month day)
same_date year later month later_month day y m h = rw (y, m) (ap (λ (d : ℕ). day_of (YMD year month d)) (held_same year month day h))

pub without_months : (start : ℤ) (step : Interval) (k : ℕ) (x : ℤ) → step.months ≡ pos 0 → IsAt start step k (Some x)
    → x ≡ start +ℤ nanos_of step k
without_months start step k x none (year, lead, civil, within) =
    let exists = lead.begins.exists in
    let again = same_again lead.start_year year lead.start_month lead.month (pos k *ℤ step.months)
    (times_zero k step.months none) exists.0 exists.1 lead.months in
    let date = same_date lead.start_year year lead.start_month lead.month lead.day again.0 again.1 exists.3 in
    lead.ends ∙ ap (λ (z : ℤ). z +ℤ nanos_of step k) (ap (λ (day : ℤ). day *ℤ pos 86_400_000_000_000 +ℤ pos lead.nanos) date
    ∙ sym lead.begins.within.same)

even_by : (start a b day_k micro_k days micros day_next micro_next : ℤ)
    → a ≡ start +ℤ (day_k *ℤ pos 86_400_000_000_000 +ℤ micro_k *ℤ pos 1000)
    → b ≡ start +ℤ (day_next *ℤ pos 86_400_000_000_000 +ℤ micro_next *ℤ pos 1000) → day_next ≡ day_k +ℤ days
    → micro_next ≡ micro_k +ℤ micros
    → b ≡ a +ℤ (days *ℤ pos 86_400_000_000_000 +ℤ micros *ℤ pos 1000)
even_by start a b day_k micro_k days micros day_next micro_next x y d m = omega (arith, ints, x, y, d, m)

pub even : (start : ℤ) (step : Interval) (k : ℕ) (a b : ℤ) → step.months ≡ pos 0 → IsAt start step k (Some a)
    → IsAt start step (k + 1) (Some b) → b ≡ a +ℤ (step.days *ℤ pos 86_400_000_000_000 +ℤ step.microseconds *ℤ pos 1000)
even start step k a b none h g =
    even_by start a b (pos k *ℤ step.days) (pos k *ℤ step.microseconds) step.days step.microseconds (pos (k + 1) *ℤ step.days)
    (pos (k + 1) *ℤ step.microseconds) (without_months start step k a none h) (without_months start step (k + 1) b none g)
    (more_times k step.days) (more_times k step.microseconds)

-- ---- a step of zero

stays : (z day there rest : ℤ) (nanos : ℕ) → IsInDay z day nanos → there ≡ day → rest ≡ pos 0
    → z ≡ (there *ℤ pos 86_400_000_000_000 +ℤ pos nanos) +ℤ rest
stays z day there rest nanos within same none = let is = within.same in omega (arith, ints, is, same, none)

repeats_on : (start : ℤ) (step : Interval) (k : ℕ) (year : ℤ) (month day nanos : ℕ) → step.months ≡ pos 0 → nanos_of step k ≡ pos 0
    → IsOnDate start year month day nanos → LeadsTo start step k year start
repeats_on start step k year month day nanos months still date = record {
  start_year = year;
  start_month = month;
  day = day;
  nanos = nanos;
  month = month;
  begins = date;
  months = record {
    first = date.exists.0;
    last = date.exists.1;
    same = let none = times_zero k step.months months in omega (arith, ints, none);
  };
  ends = stays start (day_of (YMD year month day)) (day_of (YMD year month (held_day year month day))) (nanos_of step k) nanos date.within
      (same_date year year month month day refl refl date.exists.3) still;
}

pub repeats : AreCalendarDates → (start : ℤ) (step : Interval) (k : ℕ) → step.months ≡ pos 0 → step.days ≡ pos 0 → step.microseconds ≡ pos 0
    → IsCivilInstant start → IsAt start step k (Some start)
repeats laws start step k months days micros civil =
    let c = each_civil_instant start (civil_bounds laws start civil) in
    let d = c.0.date in
    let date : IsOnDate start d.year d.month d.day (time_nanos c.0.time) = subst
    (λ (z : ℤ). IsOnDate z d.year d.month d.day (time_nanos c.0.time)) c.1 (on_date laws c.0) in (
      d.year,
      repeats_on start step k d.year d.month d.day (time_nanos c.0.time) months (no_nanos step k days micros) date,
      date.civil,
      civil,
    )

-- ---- months alone

held_exists : (year : ℤ) (month day : ℕ) → 1 ≤ month → month ≤ 12 → 1 ≤ day → Exists (YMD year month (held_day year month day))
held_exists year month day first last some = let long = days_in_month_bounds year month in
    (first, last, omega (arith, some, long.1), omega arith)

without_rest : (z day rest : ℤ) (nanos : ℕ) → z ≡ (day *ℤ pos 86_400_000_000_000 +ℤ pos nanos) +ℤ rest → rest ≡ pos 0
    → z ≡ day *ℤ pos 86_400_000_000_000 +ℤ pos nanos
without_rest z day rest nanos is none = omega (arith, ints, is, none)

lead_date : (start : ℤ) (step : Interval) (k : ℕ) (year x : ℤ) (lead : LeadsTo start step k year x) → IsCivilYear year
    → nanos_of step k ≡ pos 0 → IsOnDate x year lead.month (held_day year lead.month lead.day) lead.nanos
lead_date start step k year x lead civil none = record {
  civil = civil;
  exists = held_exists year lead.month lead.day lead.months.first lead.months.last lead.begins.exists.2;
  within = record {
    below = lead.begins.within.below;
    same = without_rest x
        (day_of (YMD year lead.month (held_day year lead.month lead.day))) (nanos_of step k) lead.nanos lead.ends none;
  };
}

-- the date to which months alone lead
abbrev pub IsMonthsLater : ℤ → ℤ → ℕ → ℕ → ℕ → ℤ → ℕ → ℕ → ℕ → Type 0
IsMonthsLater months year month day nanos later_year later_month later_day later_nanos =
    IsMonthLater months year month later_year later_month × (later_day ≡ held_day later_year later_month day) × (later_nanos ≡ nanos)

same_later : (months year year₂ later later₂ : ℤ) (month month₂ day day₂ nanos nanos₂ later_month later_month₂ later_day later_nanos : ℕ)
    → year ≡ year₂ → month ≡ month₂ → day ≡ day₂ → nanos ≡ nanos₂ → later ≡ later₂ → later_month ≡ later_month₂
    → held_day later later_month day ≡ later_day → nanos ≡ later_nanos
    → IsMonthLater months year month later later_month
    → IsMonthsLater months year₂ month₂ day₂ nanos₂ later₂ later_month₂ later_day later_nanos
same_later months year year₂ later later₂ month month₂ day day₂ nanos nanos₂ later_month later_month₂ later_day later_nanos y m d n l lm
    held still h =
    (rw (← y, ← m, ← l, ← lm) h, rw (← l, ← lm, ← d) (sym held), sym still ∙ n)

pub months_alone : AreCalendarDates → (start : ℤ) (step : Interval) (k : ℕ) (x : ℤ) (year later_year : ℤ)
    (month day nanos later_month later_day later_nanos : ℕ) → step.days ≡ pos 0 → step.microseconds ≡ pos 0 → IsAt start step k (Some x)
    → IsOnDate start year month day nanos → IsOnDate x later_year later_month later_day later_nanos
    → IsMonthsLater (pos k *ℤ step.months) year month day nanos later_year later_month later_day later_nanos
months_alone laws start step k x year later_year month day nanos later_month later_day later_nanos days micros
    (led_year, lead, civil, within) from to =
    let start_is = one_date laws start lead.start_year year lead.start_month lead.day lead.nanos month day nanos lead.begins from in
    let end_is = one_date laws x led_year later_year lead.month
    (held_day led_year lead.month lead.day) lead.nanos later_month later_day later_nanos
    (lead_date start step k led_year x lead civil (no_nanos step k days micros)) to in
    same_later (pos k *ℤ step.months) lead.start_year year led_year later_year lead.start_month month lead.day day lead.nanos nanos
    lead.month later_month later_day later_nanos start_is.0 start_is.1 start_is.2 start_is.3 end_is.0 end_is.1 end_is.2 end_is.3
    lead.months
