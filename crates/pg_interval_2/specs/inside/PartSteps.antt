-- The parts of an interval's numbers, by magnitude: all parts of one number have its sign.
use Rattle.std.specs.Prelude.{ℕ, ◌/◌, ◌%◌, ℤ, unsigned_abs, Bool, ◌||◌}
use Rattle.std.specs.Int.{is_negative}

-- one of the three numbers is negative
abbrev pub has_negative : ℤ → ℤ → ℤ → Bool
has_negative months days micros = is_negative months || (is_negative days || is_negative micros)

-- years and months of a number of months
abbrev pub years_of : ℤ → ℕ
years_of months = unsigned_abs months / 12

abbrev pub months_of : ℤ → ℕ
months_of months = unsigned_abs months % 12

-- hours, minutes, seconds and microseconds of a number of microseconds
abbrev pub hours_of : ℤ → ℕ
hours_of micros = unsigned_abs micros / 3_600_000_000

abbrev pub minutes_of : ℤ → ℕ
minutes_of micros = unsigned_abs micros / 60_000_000 % 60

abbrev pub seconds_of : ℤ → ℕ
seconds_of micros = unsigned_abs micros / 1_000_000 % 60

abbrev pub subsecond_of : ℤ → ℕ
subsecond_of micros = unsigned_abs micros % 1_000_000
