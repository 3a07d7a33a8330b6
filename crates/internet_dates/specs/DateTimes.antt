-- What the fields of a date and a time of day say: whether there is such a moment, and which it is. Moments are counted in seconds
-- from 1970-01-01 in UTC, as POSIX counts them, in the proleptic Gregorian calendar.
use Rattle.std.specs.Prelude.{◌≡◌, ℕ, ◌+◌, ◌*◌, ◌<◌, ◌≤◌, ℤ, pos, unsigned_abs, ◌+ℤ◌, ◌-ℤ◌, ◌*ℤ◌, IfSome, IsSome}
use Rattle.iso8601.specs.Calendar.{after_monday, day_of, Exists}
use Rattle.iso8601.specs.declared.types.Date.TheVariants.{YMD}
use Rattle.internet_dates.specs.declared.date_time.DateTime.{DateTime}

-- the number of the day
abbrev pub number_of_day : DateTime → ℤ
number_of_day t = day_of (YMD (pos t.year) t.month t.day)

-- the seconds since midnight
abbrev pub clock_of : DateTime → ℕ
clock_of t = (t.hour * 60 + t.minute) * 60 + t.second

-- There is such a moment: the calendar has the day, the name that stands is the day's, a clock shows the time, and the offset is
-- less than a day.
pub record IsRealMoment (t : DateTime) : Type 0 where
  pub year : t.year ≤ 9999
  pub day : Exists (YMD (pos t.year) t.month t.day)
  pub name : IfSome t.weekday (λ weekday. pos weekday ≡ after_monday (number_of_day t))
  pub hour : t.hour < 24
  pub minute : t.minute < 60
  pub second : t.second < 60
  pub offset : unsigned_abs t.offset < 1440

-- the moment in seconds
abbrev pub seconds_of : DateTime → ℤ
seconds_of t =
    (number_of_day t *ℤ pos 86_400 +ℤ pos (clock_of t)) -ℤ t.offset *ℤ pos 60

-- the date and the time of this moment in UTC, with the day's name, in a year from this first one on to 9999
pub record IsNamedDateAt (first : ℕ) (seconds : ℤ) (t : DateTime) : Type 0 where
  pub real : IsRealMoment t
  pub named : IsSome t.weekday
  pub utc : t.offset ≡ pos 0
  pub least : first ≤ t.year
  pub same : seconds_of t ≡ seconds
