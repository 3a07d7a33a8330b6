-- The words of each check, and the check of some words: an error holds a check, and a clause sees its words.
use Rattle.std.specs.Prelude.{List, [], ◌∷◌, codes, Some, None, if◌then◌else◌}
use Rattle.std.proofs.Common.{◌≡◌, refl}
use Rattle.port_toml_datetime.specs.Faults.{Fault, fault, bare_fault, says_same}
use Rattle.port_toml_datetime.specs.declared.error.Check.{Check}
use Rattle.port_toml_datetime.specs.declared.error.Check.TheVariants.{YearOrHour, YearOrHourMark, Month, MonthMark, Day, YearWidth}
use Rattle.port_toml_datetime.specs.declared.error.Check.TheVariants.{MonthWidth, DayWidth, MonthRange, DayTo28, DayTo29, DayTo30, DayTo31}
use Rattle.port_toml_datetime.specs.declared.error.Check.TheVariants.{Delimiter, Hour, HourMark, Minute, Second, Nanosecond, HourWidth}
use Rattle.port_toml_datetime.specs.declared.error.Check.TheVariants.{MinuteWidth, SecondWidth, HourRange, MinuteRange, SecondRange, Offset}
use Rattle.port_toml_datetime.specs.declared.error.Check.TheVariants.{OffsetHour, OffsetHourMark, OffsetMinute, OffsetHourWidth}
use Rattle.port_toml_datetime.specs.declared.error.Check.TheVariants.{OffsetMinuteWidth, OffsetHourRange, OffsetMinuteRange, End}

-- the words of each check
abbrev pub words_of : Check → Fault
words_of YearOrHour = bare_fault (Some (codes "year or hour"))
words_of YearOrHourMark = bare_fault (Some (codes "`-` (YYYY-MM) or `:` (HH:MM)"))
words_of Month = fault (codes "date") (codes "month")
words_of MonthMark = fault (codes "date") (codes "`-` (MM-DD)")
words_of Day = fault (codes "date") (codes "day")
words_of YearWidth = fault (codes "date") (codes "a four-digit year (YYYY)")
words_of MonthWidth = fault (codes "date") (codes "a two-digit month (MM)")
words_of DayWidth = fault (codes "date") (codes "a two-digit day (DD)")
words_of MonthRange = fault (codes "date") (codes "month between 01 and 12")
words_of DayTo28 = fault (codes "date") (codes "day between 01 and 28")
words_of DayTo29 = fault (codes "date") (codes "day between 01 and 29")
words_of DayTo30 = fault (codes "date") (codes "day between 01 and 30")
words_of DayTo31 = fault (codes "date") (codes "day between 01 and 31")
words_of Delimiter = fault (codes "date-time") (codes "`T` between date and time")
words_of Hour = fault (codes "time") (codes "hour")
words_of HourMark = fault (codes "time") (codes "`:` (HH:MM)")
words_of Minute = fault (codes "time") (codes "minute")
words_of Second = fault (codes "time") (codes "second")
words_of Nanosecond = fault (codes "time") (codes "nanosecond")
words_of HourWidth = fault (codes "time") (codes "a two-digit hour (HH)")
words_of MinuteWidth = fault (codes "time") (codes "a two-digit minute (MM)")
words_of SecondWidth = fault (codes "time") (codes "a two-digit second (SS)")
words_of HourRange = fault (codes "time") (codes "hour between 00 and 23")
words_of MinuteRange = fault (codes "time") (codes "minute between 00 and 59")
words_of SecondRange = fault (codes "time") (codes "second between 00 and 60")
words_of Offset = fault (codes "offset") (codes "`Z`, +OFFSET, -OFFSET")
words_of OffsetHour = fault (codes "offset") (codes "hour")
words_of OffsetHourMark = fault (codes "offset") (codes "`:` (HH:MM)")
words_of OffsetMinute = fault (codes "offset") (codes "minute")
words_of OffsetHourWidth = fault (codes "offset") (codes "a two-digit hour (HH)")
words_of OffsetMinuteWidth = fault (codes "offset") (codes "a two-digit minute (MM)")
words_of OffsetHourRange = fault (codes "offset") (codes "hours between 00 and 23")
words_of OffsetMinuteRange = fault (codes "offset") (codes "minutes between 00 and 59")
words_of End = bare_fault None

-- the first of these checks whose words these are, or `End`
abbrev pub first_saying : Fault → List Check → Check
first_saying said [] = End
first_saying said (c ∷ cs) = if says_same (words_of c) said then c else first_saying said cs

-- the check of these words
unfoldable pub check_of : Fault → Check
check_of said =
    first_saying said (
    YearOrHour ∷ YearOrHourMark ∷ Month ∷ MonthMark ∷ Day ∷ YearWidth ∷ MonthWidth ∷ DayWidth ∷
    MonthRange ∷ DayTo28 ∷ DayTo29 ∷ DayTo30 ∷ DayTo31 ∷ Delimiter ∷ Hour ∷ HourMark ∷ Minute ∷
    Second ∷ Nanosecond ∷ HourWidth ∷ MinuteWidth ∷ SecondWidth ∷ HourRange ∷ MinuteRange ∷
    SecondRange ∷ Offset ∷ OffsetHour ∷ OffsetHourMark ∷ OffsetMinute ∷ OffsetHourWidth ∷
    OffsetMinuteWidth ∷ OffsetHourRange ∷ OffsetMinuteRange ∷ End ∷ [])

-- a check is that of its words
pub same_check : (c : Check) → check_of (words_of c) ≡ c
unfolding check_of
same_check YearOrHour = refl
same_check YearOrHourMark = refl
same_check Month = refl
same_check MonthMark = refl
same_check Day = refl
same_check YearWidth = refl
same_check MonthWidth = refl
same_check DayWidth = refl
same_check MonthRange = refl
same_check DayTo28 = refl
same_check DayTo29 = refl
same_check DayTo30 = refl
same_check DayTo31 = refl
same_check Delimiter = refl
same_check Hour = refl
same_check HourMark = refl
same_check Minute = refl
same_check Second = refl
same_check Nanosecond = refl
same_check HourWidth = refl
same_check MinuteWidth = refl
same_check SecondWidth = refl
same_check HourRange = refl
same_check MinuteRange = refl
same_check SecondRange = refl
same_check Offset = refl
same_check OffsetHour = refl
same_check OffsetHourMark = refl
same_check OffsetMinute = refl
same_check OffsetHourWidth = refl
same_check OffsetMinuteWidth = refl
same_check OffsetHourRange = refl
same_check OffsetMinuteRange = refl
same_check End = refl
