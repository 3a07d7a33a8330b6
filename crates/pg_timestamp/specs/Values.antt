-- What a timestamp is worth: a day, a time of a day, or a moment, counted from 1970-01-01 in the proleptic Gregorian calendar, as
-- PostgreSQL counts (its manual, section 8.5, table 8.9, and appendix B.6, "History of Units"). A day has 86,400 seconds.
use Rattle.std.specs.Prelude.{ℕ, ◌+◌, ◌*◌, ◌<◌, ⊤, ℤ, pos, neg_ℤ, unsigned_abs, ◌+ℤ◌, ◌-ℤ◌, ◌*ℤ◌, ◌<ℤ◌, ◌≤ℤ◌, Option, None, Some}
use Rattle.pg_timestamp.specs.Dates.{IsRealDate, date_number}
use Rattle.pg_timestamp.specs.declared.time.Time.{Time}
use Rattle.pg_timestamp.specs.declared.timestamp.Timestamp.{Timestamp}
use Rattle.pg_timestamp.specs.declared.value.Value.{Value}
use Rattle.pg_timestamp.specs.declared.value.Value.TheVariants.{Day, Local, Moment}
use Rattle.pg_timestamp.specs.declared.value.NoValue.{NoValue}
use Rattle.pg_timestamp.specs.declared.value.NoValue.TheVariants.{NoSuchMoment, Range}

-- ---- real days and times

-- a clock shows these fields: no hour 24, and no second 60
abbrev pub IsClockTime : Time → Type 0
IsClockTime time =
    (time.hour < 24) × (time.minute < 60) × (time.second < 60) × (time.micros < 1_000_000)

-- less than a day, where there is an offset
abbrev pub IsShort : Option ℤ → Type 0
IsShort None = ⊤
IsShort (Some seconds) = unsigned_abs seconds < 86_400

-- a clock shows the time, where there is one, and its offset is less than a day
abbrev pub IsRealTime : Option Time → Type 0
IsRealTime None = ⊤
IsRealTime (Some time) = IsClockTime time × IsShort time.offset

-- there is such a day and such a time
abbrev pub IsRealTimestamp : Timestamp → Type 0
IsRealTimestamp timestamp = IsRealDate timestamp.date × IsRealTime timestamp.time

-- ---- values

-- microseconds since midnight
abbrev pub micros_of_day : Time → ℕ
micros_of_day time =
    ((time.hour * 60 + time.minute) * 60 + time.second) * 1_000_000 + time.micros

-- the time of a day with this number, in UTC where there is an offset
abbrev pub timed : ℤ → ℕ → Option ℤ → Value
timed day micros None = Local day micros
timed day micros (Some seconds) =
    Moment (((day *ℤ pos 86_400_000_000) +ℤ pos micros) -ℤ (seconds *ℤ pos 1_000_000))

-- the day with this number, or the time of it
abbrev pub value_at : ℤ → Option Time → Value
value_at day None = Day day
value_at day (Some time) = timed day (micros_of_day time) time.offset

-- what the timestamp is worth
abbrev pub value_of : Timestamp → Value
value_of timestamp = value_at (date_number timestamp.date) timestamp.time

-- ---- bounds

-- 24 November 4714 BC, on which Julian days begin, and the first day of PostgreSQL's timestamps
abbrev pub first_day : ℤ
first_day = neg_ℤ (pos 2_440_588)

-- 31 December 9999
abbrev pub last_day : ℤ
last_day = pos 2_932_896

-- a day from the first to the last one; a moment by its day in UTC
abbrev pub IsWithinBounds : Value → Type 0
IsWithinBounds (Day day) = (first_day ≤ℤ day) × (day ≤ℤ last_day)
IsWithinBounds (Local day micros) =
    (first_day ≤ℤ day) × (day ≤ℤ last_day) × (micros < 86_400_000_000)
IsWithinBounds (Moment micros) =
    ((first_day *ℤ pos 86_400_000_000) ≤ℤ micros)
    × (micros <ℤ ((last_day +ℤ pos 1) *ℤ pos 86_400_000_000))

-- the value is within the bounds, and the written day isn't past the last one
abbrev pub IsInRange : Timestamp → Type 0
IsInRange timestamp =
    IsWithinBounds (value_of timestamp) × (date_number timestamp.date ≤ℤ last_day)

-- why a timestamp has no value: there is no such day or time, or else it is out of range
abbrev pub IsRefusedBy : Timestamp → NoValue → Type 0
IsRefusedBy timestamp NoSuchMoment = ¬ (IsRealTimestamp timestamp)
IsRefusedBy timestamp Range = IsRealTimestamp timestamp × ¬ (IsInRange timestamp)
