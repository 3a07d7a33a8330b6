-- The values that the parsers give, field by field: those that are read back from their written texts.
use Rattle.std.specs.Prelude.{◌≤◌, ◌<◌, ◌^◌, ◌⊎◌, ℤ, pos, unsigned_abs, ◌≤ℤ◌}
use Rattle.iso8601.specs.declared.types.Date.{Date}
use Rattle.iso8601.specs.declared.types.Date.TheVariants.{YMD, Week, Ordinal}
use Rattle.iso8601.specs.declared.types.Time.{Time}
use Rattle.iso8601.specs.declared.types.DateTime.{DateTime}
use Rattle.iso8601.specs.declared.types.Duration.{Duration}
use Rattle.iso8601.specs.declared.types.Duration.TheVariants.{YMDHMS, Weeks}

-- a year of four digits, and the fields of a date; the day may be missing in its month or year
abbrev pub IsDateInRange : Date → Type 0
IsDateInRange (YMD year month day) =
    (unsigned_abs year ≤ 9999) × (1 ≤ month) × (month ≤ 12) × (1 ≤ day) × (day ≤ 31)
IsDateInRange (Week year ww d) =
    (unsigned_abs year ≤ 9999) × (1 ≤ ww) × (ww ≤ 53) × (1 ≤ d) × (d ≤ 7)
IsDateInRange (Ordinal year ddd) = (unsigned_abs year ≤ 9999) × (1 ≤ ddd) × (ddd ≤ 366)

-- neither part is negative, or neither is positive
abbrev pub HaveOneSign : ℤ → ℤ → Type 0
HaveOneSign a b = ((pos 0 ≤ℤ a) × (pos 0 ≤ℤ b)) ⊎ ((a ≤ℤ pos 0) × (b ≤ℤ pos 0))

-- the fields of a time, and an offset under one sign
abbrev pub IsTimeInRange : Time → Type 0
IsTimeInRange t =
    (t.hour ≤ 24) × (t.minute ≤ 59) × (t.second ≤ 60) × (t.millisecond ≤ 999)
    × (unsigned_abs t.tz_offset_hours ≤ 24) × (unsigned_abs t.tz_offset_minutes ≤ 59)
    × HaveOneSign t.tz_offset_hours t.tz_offset_minutes

-- a date and a time, each in its range
abbrev pub IsDateTimeInRange : DateTime → Type 0
IsDateTimeInRange t = IsDateInRange t.date × IsTimeInRange t.time

-- counts of 32 bits, and fewer than 1000 milliseconds
abbrev pub IsDurationInRange : Duration → Type 0
IsDurationInRange (YMDHMS year month day hour minute second millisecond) =
    (year < 2 ^ 32) × (month < 2 ^ 32) × (day < 2 ^ 32)
    × (hour < 2 ^ 32) × (minute < 2 ^ 32) × (second < 2 ^ 32) × (millisecond ≤ 999)
IsDurationInRange (Weeks weeks) = weeks < 2 ^ 32
