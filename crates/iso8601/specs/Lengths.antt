-- How long a duration is where a year is taken for 365 days and a month for 30, as the Rust crate `iso8601` does; a week is 7 days.
use Rattle.std.specs.Prelude.{ℕ, ◌+◌, ◌*◌}
use Rattle.iso8601.specs.declared.types.Duration.{Duration}
use Rattle.iso8601.specs.declared.types.Duration.TheVariants.{YMDHMS, Weeks}

-- the days of years of 365 days, months of 30 days, and days
abbrev pub days_of : ℕ → ℕ → ℕ → ℕ
days_of year month day = 365 * year + 30 * month + day

-- the seconds of days, hours, minutes and seconds
abbrev pub seconds_of : ℕ → ℕ → ℕ → ℕ → ℕ
seconds_of days hour minute second = 86_400 * days + 3_600 * hour + 60 * minute + second

-- the nanoseconds of a duration
abbrev pub length_nanos : Duration → ℕ
length_nanos (YMDHMS year month day hour minute second millisecond) =
    1_000_000_000 * seconds_of (days_of year month day) hour minute second + 1_000_000 * millisecond
length_nanos (Weeks weeks) = 1_000_000_000 * seconds_of (7 * weeks) 0 0 0
