-- The instant that the code computes is the one of the definition, and there is no other.
use Rattle.std.proofs.Common.{◌≡◌, inl, inr, ℕ, ◌-◌, ◌≤◌, Bool, true, false, ℤ, pos, ◌+ℤ◌, ◌*ℤ◌, Option, Some}
use Rattle.std.proofs.Common.{None, refl, sym, ap, subst, true≢false, ◌∙◌, arith}
use Rattle.std.specs.Prelude.{IsSome, IfSome, ◌↔◌}
use Rattle.std.proofs.lemmas.Int.{ints}
use Rattle.jiff_core.specs.Calendar.{IsYear, IsEpochDay}
use Rattle.jiff_core.specs.Date.{epoch_day}
use Rattle.jiff_core.specs.DateTime.{civil_nanos, IsCivilNanos}
use Rattle.jiff_core.specs.Time.{time_nanos}
use Rattle.jiff_core.specs.declared.civil.date.Date.{Date as CivilDate}
use Rattle.jiff_core.specs.declared.civil.datetime.DateTime.{DateTime as CivilDateTime}
use Rattle.jiff_core.proofs.DateLemmas.{epoch_day_injective, epoch_day_range}
use Rattle.jiff_core.proofs.DateTimeLemmas.{civil_nanos-parts, time_nanos_bound}
use Rattle.jiff_span.specs.Months.{shifted_year, shifted_month, add_months}
use Rattle.jiff_span.proofs.MonthLemmas.{shifted_number, shifted_month_in, shifted_civil}
use Rattle.iso8601.specs.Calendar.{day_of, Exists, IsCivilDay}
use Rattle.iso8601.specs.declared.types.Date.TheVariants.{YMD}
use Rattle.pg_interval_2.specs.declared.interval.Interval.{Interval}
use Rattle.recurrence.specs.Instants.{IsInDay, IsCivilInstant, IsCivilYear, IsOnDate, IsMonthLater, held_day, nanos_of, LeadsTo, IsAt}
use Rattle.recurrence.specs.inside.Steps.{AreCalendarDates, is_civil_year, is_civil_instant, months_of, moved, civil_or_none, at_from}
use Rattle.recurrence.specs.inside.Steps.{at_start}
use Rattle.recurrence.proofs.CivilDays.{each_civil_instant}
use Rattle.recurrence.proofs.Ranges.{between_true, between_false, between_is}

-- ---- dates

-- the civil date of a date of the civil years
abbrev pub civil_date : (year : ℤ) (month day : ℕ) → IsCivilYear year → Exists (YMD year month day) → CivilDate
civil_date year month day civil exists = record {
  year = year;
  month = month;
  day = day;
  year_in = (omega (arith, ints, civil), omega (arith, ints, civil));
  month_in = (exists.0, exists.1);
  day_in = (exists.2, exists.3);
}

same_day : (z a b : ℤ) (m n : ℕ) → IsInDay z a m → IsInDay z b n → (a ≡ b) × (m ≡ n)
same_day z a b m n h k =
    let x = h.same in
    let y = k.same in
    let p = h.below in
    let q = k.below in
    (omega (arith, ints), omega (arith, ints))

-- an instant is on one date
pub one_date : AreCalendarDates → (z year year₂ : ℤ) (month day nanos month₂ day₂ nanos₂ : ℕ) → IsOnDate z year month day nanos
    → IsOnDate z year₂ month₂ day₂ nanos₂
    → (year ≡ year₂) × (month ≡ month₂) × (day ≡ day₂) × (nanos ≡ nanos₂)
one_date laws z year year₂ month day nanos month₂ day₂ nanos₂ h k =
    let a = civil_date year month day h.civil h.exists in
    let b = civil_date year₂ month₂ day₂ k.civil k.exists in
    let same = same_day z _ _ nanos nanos₂ h.within k.within in
    let parts = epoch_day_injective a b (sym (laws.day a) ∙ (same.0 ∙ laws.day b)) in
    (parts.0, parts.1, parts.2, same.1)

-- ---- instants of the civil years

civil_range : (z day : ℤ) (nanos : ℕ) → IsInDay z day nanos → IsEpochDay day → IsCivilNanos z
civil_range z day nanos h range =
    let same = h.same in
    let below = h.below in
    (omega (arith, ints, range.0), omega (arith, ints, range.1))

pub civil_bounds : AreCalendarDates → (z : ℤ) → IsCivilInstant z → IsCivilNanos z
civil_bounds laws z (day, nanos, within, civil) = civil_range z day nanos within ((laws.civil day).0 civil)

pub is_civil : AreCalendarDates → (z : ℤ) → IsCivilNanos z → IsCivilInstant z
is_civil laws z h =
    let c = each_civil_instant z h in (
      epoch_day c.0.date,
      time_nanos c.0.time,
      record { below = time_nanos_bound c.0.time; same = sym c.1 ∙ civil_nanos-parts c.0 },
      (laws.civil (epoch_day c.0.date)).1 (epoch_day_range c.0.date),
    )

pub date_is_civil : AreCalendarDates → (z year : ℤ) (month day nanos : ℕ) → IsOnDate z year month day nanos → IsCivilInstant z
date_is_civil laws z year month day nanos h =
    let d = civil_date year month day h.civil h.exists in
    (day_of (YMD year month day), nanos, h.within, subst IsCivilDay (sym (laws.day d)) ((laws.civil (epoch_day d)).1 (epoch_day_range d)))

-- a civil date-time is on its date
pub on_date : AreCalendarDates → (c : CivilDateTime) → IsOnDate (civil_nanos c) c.date.year c.date.month c.date.day (time_nanos c.time)
on_date laws c =
    let year : IsYear c.date.year = c.date.year_in in
    record {
      civil = omega (arith, ints);
      exists = laws.exists c.date;
      within = record {
        below = time_nanos_bound c.time;
        same = civil_nanos-parts c
            ∙ ap (λ (day : ℤ). day *ℤ pos 86_400_000_000_000 +ℤ pos (time_nanos c.time)) (sym (laws.day c.date));
      };
    }

-- ---- where the months lead

later_by : (months year later : ℤ) (month later_month : ℕ) → 1 ≤ month → 1 ≤ later_month
    → (year *ℤ pos 12 +ℤ pos (month - 1)) +ℤ months ≡ later *ℤ pos 12 +ℤ pos (later_month - 1)
    → later *ℤ pos 12 +ℤ pos later_month ≡ (year *ℤ pos 12 +ℤ pos month) +ℤ months
later_by months year later month later_month some later_some e = omega (arith, ints)

month_later : (d : CivilDate) (months : ℤ) → IsMonthLater months d.year d.month (shifted_year d months) (shifted_month d months)
month_later d months =
    let within = shifted_month_in d months in
    record {
      first = within.0;
      last = within.1;
      same = later_by months d.year (shifted_year d months) d.month
          (shifted_month d months) d.month_in.0 within.0 (shifted_number d months);
    }

pub same_month : (months year a b : ℤ) (month m n : ℕ) → IsMonthLater months year month a m → IsMonthLater months year month b n → (a ≡ b)
    × (m ≡ n)
same_month months year a b month m n h k =
    let x = h.same in
    let y = k.same in
    let low = h.first in
    let high = h.last in
    let low₂ = k.first in
    let high₂ = k.last in
    let both : a *ℤ pos 12 +ℤ pos m ≡ b *ℤ pos 12 +ℤ pos n = x ∙ sym y in
    (omega (arith, ints, both), omega (arith, ints, both))

-- ---- where a step leads

-- the instant so many nanoseconds behind a date and its time of day
abbrev pub end_of : ℤ → ℕ → ℕ → ℕ → ℤ → ℤ
end_of year month day nanos rest = (day_of (YMD year month (held_day year month day)) *ℤ pos 86_400_000_000_000 +ℤ pos nanos) +ℤ rest

-- the instant to which the step leads, also where its year is no civil one
abbrev landed : CivilDateTime → Interval → ℕ → ℤ
landed c step k = end_of (shifted_year c.date (months_of step k)) (shifted_month c.date (months_of step k)) c.date.day (time_nanos c.time)
    (nanos_of step k)

leads : AreCalendarDates → (c : CivilDateTime) (step : Interval) (k : ℕ)
    → LeadsTo (civil_nanos c) step k (shifted_year c.date (months_of step k)) (landed c step k)
leads laws c step k = record {
  start_year = c.date.year;
  start_month = c.date.month;
  day = c.date.day;
  nanos = time_nanos c.time;
  month = shifted_month c.date (months_of step k);
  begins = on_date laws c;
  months = month_later c.date (months_of step k);
  ends = refl;
}

shifted_date : (d : CivilDate) (months : ℤ) → IsYear (shifted_year d months) → AreCalendarDates
    → day_of (YMD (shifted_year d months) (shifted_month d months) (held_day (shifted_year d months) (shifted_month d months) d.day))
    ≡ add_months d months
shifted_date d months year laws =
    let civil = shifted_civil d months year in
    let later : CivilDate = record {
      year = shifted_year d months;
      month = shifted_month d months;
      day = held_day (shifted_year d months) (shifted_month d months) d.day;
      year_in = civil.0;
      month_in = civil.1;
      day_in = civil.2;
    } in
    laws.day later

moved_is : AreCalendarDates → (c : CivilDateTime) (step : Interval) (k : ℕ) → IsYear (shifted_year c.date (months_of step k))
    → landed c step k ≡ moved c step k
unfolding moved
moved_is laws c step k year = ap (λ (day : ℤ). (day *ℤ pos 86_400_000_000_000 +ℤ pos (time_nanos c.time)) +ℤ nanos_of step k)
    (shifted_date c.date (months_of step k) year laws)

-- the instant, from its parts
moved_parts : (civil : CivilDateTime) (step : Interval) (k : ℕ)
    → moved civil step k ≡ (add_months civil.date (months_of step k) *ℤ pos 86_400_000_000_000 +ℤ pos (time_nanos civil.time)) +ℤ nanos_of
    step k
unfolding moved
moved_parts civil step k = refl

pub moved_by_parts : (civil : CivilDateTime) (step : Interval) (k : ℕ) (months day nanos instant : ℤ) → months ≡ months_of step k
    → day ≡ add_months civil.date months → nanos ≡ nanos_of step k
    → instant ≡ (day *ℤ pos 86_400_000_000_000 +ℤ pos (time_nanos civil.time)) +ℤ nanos → instant ≡ moved civil step k
moved_by_parts civil step k months day nanos instant m d n i = i ∙ rw (moved_parts civil step k, n, d, m) refl

-- in a civil year the instant is the one moved to, and else there is none
pub in_civil_year : (civil : CivilDateTime) (step : Interval) (k : ℕ) → IsYear (shifted_year civil.date (months_of step k))
    → at_from civil step k ≡ civil_or_none (moved civil step k)
unfolding at_from
in_civil_year civil step k h = rw (between_true _ _ _ h) refl

pub no_civil_year : (civil : CivilDateTime) (step : Interval) (k : ℕ) → (IsYear (shifted_year civil.date (months_of step k)) → ⊥)
    → at_from civil step k ≡ None
unfolding at_from
no_civil_year civil step k h = rw (between_false _ _ _ h) refl

-- ---- the instant of the definition

civil_year : (year : ℤ) → IsYear year → IsCivilYear year
civil_year year h = omega (arith, ints, h.0, h.1)

is_year : (year : ℤ) → IsCivilYear year → IsYear year
is_year year h = (omega (arith, ints, h), omega (arith, ints, h))

in_year : AreCalendarDates → (c : CivilDateTime) (step : Interval) (k : ℕ) → IsYear (shifted_year c.date (months_of step k)) → (t : Bool)
    → is_civil_instant (moved c step k) ≡ t → IsAt (civil_nanos c) step k (civil_or_none (moved c step k))
unfolding civil_or_none
in_year laws c step k year true e =
    let lead = subst (LeadsTo (civil_nanos c) step k (shifted_year c.date (months_of step k))) (moved_is laws c step k year)
    (leads laws c step k) in
    rw e (shifted_year c.date (months_of step k), lead, civil_year _ year, is_civil laws (moved c step k) (between_is _ _ _ e))
in_year laws c step k year false e =
    let lead = subst (LeadsTo (civil_nanos c) step k (shifted_year c.date (months_of step k))) (moved_is laws c step k year)
    (leads laws c step k) in
    rw e (inr (
      shifted_year c.date (months_of step k),
      moved c step k,
      lead,
      λ both. true≢false (sym (between_true _ _ _ (civil_bounds laws (moved c step k) both.1)) ∙ e),
    ))

from_civil : AreCalendarDates → (c : CivilDateTime) (step : Interval) (k : ℕ) (t : Bool)
    → is_civil_year (shifted_year c.date (months_of step k)) ≡ t → IsAt (civil_nanos c) step k (at_from c step k)
from_civil laws c step k true e =
    let year = between_is _ _ _ e in
    subst (IsAt (civil_nanos c) step k) (sym (in_civil_year c step k year))
    (in_year laws c step k year (is_civil_instant (moved c step k)) refl)
from_civil laws c step k false e =
    let out : IsYear (shifted_year c.date (months_of step k)) → ⊥ = λ year. true≢false (sym (between_true _ _ _ year) ∙ e) in
    subst (IsAt (civil_nanos c) step k) (sym (no_civil_year c step k out))
    (inr (shifted_year c.date (months_of step k), landed c step k, leads laws c step k, λ both. out (is_year _ both.0)))

pub at_is : AreCalendarDates → (start : ℤ) (step : Interval) (k : ℕ) (found : Option CivilDateTime) → (IsSome found ↔ IsCivilNanos start)
    → IfSome found (λ c. civil_nanos c ≡ start) → IsAt start step k (at_start found step k)
at_is laws start step k None some value = inl (λ civil. true≢false (sym (some.1 (civil_bounds laws start civil))))
at_is laws start step k (Some c) some value = subst (λ (z : ℤ). IsAt z step k (at_from c step k)) value
    (from_civil laws c step k (is_civil_year (shifted_year c.date (months_of step k))) refl)

-- ---- there is one

same_end : (year year₂ rest : ℤ) (month day nanos month₂ day₂ nanos₂ : ℕ) → year ≡ year₂ → month ≡ month₂ → day ≡ day₂ → nanos ≡ nanos₂
    → end_of year month day nanos rest ≡ end_of year₂ month₂ day₂ nanos₂ rest
same_end year year₂ rest month day nanos month₂ day₂ nanos₂ y m d n = rw (y, m, d, n) refl

later_from : (months year year₂ later : ℤ) (month month₂ later_month : ℕ) → year ≡ year₂ → month ≡ month₂
    → IsMonthLater months year₂ month₂ later later_month → IsMonthLater months year month later later_month
later_from months year year₂ later month month₂ later_month y m h = rw (y, m) h

pub one_lead : AreCalendarDates → (start : ℤ) (step : Interval) (k : ℕ) (year year₂ instant instant₂ : ℤ)
    → LeadsTo start step k year instant → LeadsTo start step k year₂ instant₂ → (year ≡ year₂) × (instant ≡ instant₂)
one_lead laws start step k year year₂ instant instant₂ h g =
    let same = one_date laws start h.start_year g.start_year h.start_month h.day h.nanos g.start_month g.day g.nanos h.begins g.begins in
    let months = later_from _ h.start_year g.start_year year₂ h.start_month g.start_month g.month same.0 same.1 g.months in
    let month = same_month _ h.start_year year year₂ h.start_month h.month g.month h.months months in (
      month.0,
      h.ends ∙ (same_end year year₂ (nanos_of step k) h.month h.day h.nanos g.month g.day g.nanos month.0 month.1 same.2 same.3
          ∙ sym g.ends),
    )

some_or_none : AreCalendarDates → (start : ℤ) (step : Interval) (k : ℕ) (instant : ℤ) → IsAt start step k (Some instant)
    → IsAt start step k None → ⊥
some_or_none laws start step k instant (year, lead, civil, within) (inl out) = out (date_is_civil laws start _ _ _ _ lead.begins)
some_or_none laws start step k instant (year, lead, civil, within) (inr (year₂, instant₂, lead₂, out)) =
    let same = one_lead laws start step k year year₂ instant instant₂ lead lead₂ in
    out (subst IsCivilYear same.0 civil, subst IsCivilInstant same.1 within)

pub one_answer : AreCalendarDates → (start : ℤ) (step : Interval) (k : ℕ) (a b : Option ℤ) → IsAt start step k a → IsAt start step k b
    → a ≡ b
one_answer laws start step k (Some x) (Some y) h g = ap (λ (z : ℤ). Some z) (one_lead laws start step k h.0 g.0 x y h.1 g.1).1
one_answer laws start step k (Some x) None h g = absurd (some_or_none laws start step k x h g)
one_answer laws start step k None (Some y) h g = absurd (some_or_none laws start step k y g h)
one_answer laws start step k None None h g = refl

-- what the code answers is exact, whichever civil date-time of the start was found
pub at_exact : AreCalendarDates → (start : ℤ) (step : Interval) (k : ℕ) (found : Option CivilDateTime) → (IsSome found ↔ IsCivilNanos start)
    → IfSome found (λ c. civil_nanos c ≡ start) → (answer : Option ℤ) → (at_start found step k ≡ answer) ↔ IsAt start step k answer
at_exact laws start step k found some value answer =
    let is = at_is laws start step k found some value in
    (λ h. subst (IsAt start step k) h is, λ other. one_answer laws start step k (at_start found step k) answer is other)
