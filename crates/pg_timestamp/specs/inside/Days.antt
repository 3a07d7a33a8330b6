-- The number of a date's day, and why a date has none.
use Rattle.std.specs.Prelude.{◌≡◌, ℤ, Result, Ok, Err}
use Rattle.iso8601.specs.Calendar.{IsCivilDay}
use Rattle.pg_timestamp.specs.Dates.{IsRealDate, date_number}
use Rattle.pg_timestamp.specs.declared.date.Date.{Date}
use Rattle.pg_timestamp.specs.declared.value.NoValue.{NoValue}
use Rattle.pg_timestamp.specs.declared.value.NoValue.TheVariants.{NoSuchMoment, Range}

-- the number of a civil day, `NoSuchMoment` where there is no such day, or `Range` where it isn't a civil one
abbrev pub IsDayNumber : Date → Result ℤ NoValue → Type 0
IsDayNumber date (Ok day) = IsRealDate date × IsCivilDay (date_number date) × (day ≡ date_number date)
IsDayNumber date (Err NoSuchMoment) = ¬ (IsRealDate date)
IsDayNumber date (Err Range) = IsRealDate date × ¬ (IsCivilDay (date_number date))
