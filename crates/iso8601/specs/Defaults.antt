-- The values of `Default`: every field 0.
use Rattle.iso8601.specs.declared.types.Date.{Date}
use Rattle.iso8601.specs.declared.types.Date.TheVariants.{YMD}
use Rattle.iso8601.specs.declared.types.Duration.{Duration}
use Rattle.iso8601.specs.declared.types.Duration.TheVariants.{YMDHMS}
use Rattle.std.specs.Prelude.{pos}

-- the calendar date of year, month and day 0, which is no day
abbrev pub zero_date : Date
zero_date = YMD (pos 0) 0 0

-- the duration of no time, by units
abbrev pub zero_duration : Duration
zero_duration = YMDHMS 0 0 0 0 0 0 0
