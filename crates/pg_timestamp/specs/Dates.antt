-- Dates as PostgreSQL writes them in DateStyle ISO (its manual, section 8.5.2, "Date/Time Output"): a year of four digits or more, a month
-- and a day. The year before 1 is 1 BC.
use Rattle.std.specs.Prelude.{◌≡◌, ℕ, ◌+◌, ◌%◌, ◌≤◌, nat_lt, true, false, List, length, ℤ, pos, ◌-ℤ◌, Bool, if◌then◌else◌}
use Rattle.scan_core.specs.Digits.{AreDigits, number_of}
use Rattle.iso8601.specs.Calendar.{day_of, Exists}
use Rattle.iso8601.specs.declared.types.Date.TheVariants.{YMD}
use Rattle.pg_timestamp.specs.declared.date.Date.{Date}

-- A year as it is held: itself below 40,000, and else 40,000 and its last four digits. 10,000 years are 25 times 400, so that both years
-- have the same days, and both are past all bounds.
unfoldable pub held_year : ℕ → ℕ
held_year year = if nat_lt year 40_000 then year else (40_000 + year % 10_000)

-- four digits or more, and the year that they write, as it is held
pub record IsLongYear (text : List ℕ) (year : ℕ) : Type 0 where
  pub least : 4 ≤ length text
  pub digits : AreDigits text
  pub number : year ≡ held_year (number_of text)

-- the year in the calendar, which has a year 0
abbrev pub calendar_year : Bool → ℕ → ℤ
calendar_year true year = pos 1 -ℤ pos year
calendar_year false year = pos year

-- there is such a day, and its year isn't 0
pub record IsRealDate (date : Date) : Type 0 where
  pub year : 1 ≤ date.year
  pub day : Exists (YMD (calendar_year date.bc date.year) date.month date.day)

-- the number of its day, where 1970-01-01 is 0
abbrev pub date_number : Date → ℤ
date_number date = day_of (YMD (calendar_year date.bc date.year) date.month date.day)
