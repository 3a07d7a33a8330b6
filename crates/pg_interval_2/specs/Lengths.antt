-- The interval of a length of time, which has days of 24 hours and no months.
use Rattle.std.specs.Prelude.{ℤ, pos, neg_ℤ, ◌-ℤ◌, ◌*ℤ◌, int_div}
use Rattle.std.specs.Int.{int_min, int_max}
use Rattle.pg_interval_2.specs.declared.interval.Interval.{Interval}

-- the nearest number that the type of days has
abbrev pub nearest_days : ℤ → ℤ
nearest_days n = int_max (neg_ℤ (pos 2_147_483_648)) (int_min n (pos 2_147_483_647))

-- the whole days of a number of microseconds, toward zero, as many as the type has
abbrev pub whole_days : ℤ → ℤ
whole_days micros = nearest_days (int_div micros (pos 86_400_000_000))

-- days, and the microseconds beside them
abbrev pub days_and_rest : ℤ → Interval
days_and_rest micros = record {
  months = pos 0;
  days = whole_days micros;
  microseconds = micros -ℤ (whole_days micros *ℤ pos 86_400_000_000);
}

-- the interval of a number of nanoseconds, which are cut toward zero to microseconds
abbrev pub length_of : ℤ → Interval
length_of nanos = days_and_rest (int_div nanos (pos 1_000))
