-- The instants of a series as functions of the civil date-time of its start: cited by private contracts alone.
use Rattle.std.specs.Prelude.{◌≡◌, ◌↔◌, ℕ, zero, suc, ◌+◌, ◌≤◌, ◌^◌, Bool, not, ◌&&◌, List, [], ◌∷◌, ℤ, pos, neg_ℤ, ◌+ℤ◌, ◌*ℤ◌}
use Rattle.std.specs.Prelude.{int_lt, Option, Some, None, if◌then◌else◌}
use Rattle.jiff_core.specs.Calendar.{IsEpochDay}
use Rattle.jiff_core.specs.Date.{epoch_day}
use Rattle.jiff_core.specs.Time.{time_nanos}
use Rattle.jiff_core.specs.declared.civil.date.Date.{Date as CivilDate}
use Rattle.jiff_core.specs.declared.civil.datetime.DateTime.{DateTime as CivilDateTime}
use Rattle.jiff_span.specs.Months.{shifted_year, add_months}
use Rattle.iso8601.specs.Calendar.{day_of, Exists, IsCivilDay}
use Rattle.iso8601.specs.declared.types.Date.TheVariants.{YMD}
use Rattle.pg_interval_2.specs.declared.interval.Interval.{Interval}
use Rattle.recurrence.specs.Instants.{nanos_of}

-- civil dates are the calendar's dates of the years -9999 to 9999
pub record AreCalendarDates : Type 0 where
  pub exists : (d : CivilDate) → Exists (YMD d.year d.month d.day)
  pub day : (d : CivilDate) → day_of (YMD d.year d.month d.day) ≡ epoch_day d
  pub civil : (day : ℤ) → IsCivilDay day ↔ IsEpochDay day

-- from low to high, both included
abbrev pub is_between : ℤ → ℤ → ℤ → Bool
is_between low high z = not (int_lt z low) && not (int_lt high z)

abbrev pub is_civil_year : ℤ → Bool
is_civil_year = is_between (neg_ℤ (pos 9999)) (pos 9999)

-- an instant of the years -9999 to 9999
abbrev pub is_civil_instant : ℤ → Bool
is_civil_instant =
    is_between (neg_ℤ (pos 377_705_116_800_000_000_000)) (pos 253_402_300_799_999_999_999)

-- k times the months of a step
abbrev pub months_of : Interval → ℕ → ℤ
months_of step k = pos k *ℤ step.months

-- the instant to which the step leads k times
unfoldable pub moved : CivilDateTime → Interval → ℕ → ℤ
moved civil step k =
    (add_months civil.date (months_of step k) *ℤ pos 86_400_000_000_000
    +ℤ pos (time_nanos civil.time))
    +ℤ nanos_of step k

-- the instant, where it is a civil one
unfoldable pub civil_or_none : ℤ → Option ℤ
civil_or_none instant = if is_civil_instant instant then Some instant else None

-- the same, where the year after the months and the day at the end are civil ones
unfoldable pub at_from : CivilDateTime → Interval → ℕ → Option ℤ
at_from civil step k =
    if is_civil_year (shifted_year civil.date (months_of step k))
    then civil_or_none (moved civil step k)
    else None

-- the instant k steps from the start, where the start is a civil one
abbrev pub at_start : Option CivilDateTime → Interval → ℕ → Option ℤ
at_start None step k = None
at_start (Some civil) step k = at_from civil step k

-- an instant in front of others, or nothing where there is none
abbrev pub onto : Option ℤ → List ℤ → List ℤ
onto None more = []
onto (Some instant) more = instant ∷ more

-- the instants k, k + 1 and so on steps from the start, so many at most, up to the first that there is not
unfoldable pub instants_from : Option CivilDateTime → Interval → ℕ → ℕ → List ℤ
instants_from start step k zero = []
instants_from start step k (suc n) =
    onto (at_start start step k) (instants_from start step (k + 1) n)

abbrev pub stop_at : Option ℤ → ℕ → Option ℕ → Option ℕ
stop_at None k later = Some k
stop_at (Some instant) k later = later

-- the first of them that there is not
unfoldable pub stop_from : Option CivilDateTime → Interval → ℕ → ℕ → Option ℕ
stop_from start step k zero = None
stop_from start step k (suc n) =
    stop_at (at_start start step k) k (stop_from start step (k + 1) n)

-- the first of two, where there is one
abbrev pub or_later : Option ℕ → Option ℕ → Option ℕ
or_later None later = later
or_later (Some k) later = Some k

-- the numbers of steps fit 32 bits, and nothing is left once the series stopped
abbrev pub RestsAfterStop : ℕ → ℕ → Option ℕ → Type 0
RestsAfterStop next left None = next + left ≤ 2 ^ 32
RestsAfterStop next left (Some k) = left ≡ 0
