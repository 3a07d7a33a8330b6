-- The instants of a recurrence (ISO 8601-1:2019, 5.6): a start, to which a step of months, days and microseconds is applied k times, in the
-- Gregorian calendar. Instants are nanoseconds since 1970-01-01 in UTC; a day has 86_400 seconds.
use Rattle.std.specs.Prelude.{◌≡◌, ◌⊎◌, ℕ, ◌<◌, ◌≤◌, min, ℤ, pos, ◌+ℤ◌, ◌*ℤ◌, unsigned_abs, Option, Some, None}
use Rattle.scan_core.specs.Calendar.{days_in_month}
use Rattle.iso8601.specs.Calendar.{day_of, Exists, IsCivilDay}
use Rattle.iso8601.specs.declared.types.Date.TheVariants.{YMD}
use Rattle.pg_interval_2.specs.declared.interval.Interval.{Interval}

-- the instant lies in this day in UTC, so many nanoseconds behind midnight
pub record IsInDay (instant day : ℤ) (nanos : ℕ) : Type 0 where
  pub below : nanos < 86_400_000_000_000
  pub same : instant ≡ day *ℤ pos 86_400_000_000_000 +ℤ pos nanos

-- its day in UTC is one of the years -9999 to 9999
abbrev pub IsCivilInstant : ℤ → Type 0
IsCivilInstant instant = (day : ℤ) × (nanos : ℕ) × IsInDay instant day nanos × IsCivilDay day

-- a year of -9999 to 9999
abbrev pub IsCivilYear : ℤ → Type 0
IsCivilYear year = unsigned_abs year ≤ 9999

-- its day in UTC has this date, which is one of the years -9999 to 9999
pub record IsOnDate (instant year : ℤ) (month day nanos : ℕ) : Type 0 where
  pub civil : IsCivilYear year
  pub exists : Exists (YMD year month day)
  pub within : IsInDay instant (day_of (YMD year month day)) nanos

-- so many months behind one month, or before it, lies another; a year has 12
pub record IsMonthLater (months year : ℤ) (month : ℕ) (later_year : ℤ) (later_month : ℕ) : Type 0 where
  pub first : 1 ≤ later_month
  pub last : later_month ≤ 12
  pub same : later_year *ℤ pos 12 +ℤ pos later_month ≡ (year *ℤ pos 12 +ℤ pos month) +ℤ months

-- this day of the month, or the month's last where it has no such day
abbrev pub held_day : ℤ → ℕ → ℕ → ℕ
held_day year month day = min day (days_in_month year month)

-- k times the days and the microseconds of the step, in nanoseconds
abbrev pub nanos_of : Interval → ℕ → ℤ
nanos_of step k =
    (pos k *ℤ step.days) *ℤ pos 86_400_000_000_000 +ℤ (pos k *ℤ step.microseconds) *ℤ pos 1000

-- From the start the step leads k times to this instant: first the months lead to a month of this year, in which the day of the month is
-- held, and the time of day stays; then the days and the microseconds are added as whole numbers.
pub record LeadsTo (start : ℤ) (step : Interval) (k : ℕ) (year instant : ℤ) : Type 0 where
  pub start_year : ℤ
  pub start_month : ℕ
  pub day : ℕ
  pub nanos : ℕ
  pub month : ℕ
  pub begins : IsOnDate start start_year start_month day nanos
  pub months : IsMonthLater (pos k *ℤ step.months) start_year start_month year month
  pub ends : instant
      ≡ (day_of (YMD year month (held_day year month day)) *ℤ pos 86_400_000_000_000 +ℤ pos nanos)
      +ℤ nanos_of step k

-- The instant k steps from the start. There is none where the start's own day isn't one of the years -9999 to 9999, or the year to which
-- the months lead, or the day at the end.
abbrev pub IsAt : ℤ → Interval → ℕ → Option ℤ → Type 0
IsAt start step k (Some instant) =
    (year : ℤ) × LeadsTo start step k year instant × IsCivilYear year × IsCivilInstant instant
IsAt start step k None =
    (IsCivilInstant start → ⊥)
    ⊎ ((year : ℤ) × (instant : ℤ) × LeadsTo start step k year instant
    × (IsCivilYear year × IsCivilInstant instant → ⊥))
