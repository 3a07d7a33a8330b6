-- Sums and differences of intervals, part by part: PostgreSQL's `interval + interval` and `interval - interval`.
use Rattle.std.specs.Prelude.{ℤ, pos, ◌+ℤ◌, ◌-ℤ◌, ◌*ℤ◌, int_div}
use Rattle.pg_interval_2.specs.declared.interval.Interval.{Interval}

-- the sum of two intervals: each part is the sum of both
abbrev pub plus : Interval → Interval → Interval
plus a b = record {
  months = a.months +ℤ b.months;
  days = a.days +ℤ b.days;
  microseconds = a.microseconds +ℤ b.microseconds;
}

-- the difference of two intervals: each part of the first less that of the second
abbrev pub less : Interval → Interval → Interval
less a b = record {
  months = a.months -ℤ b.months;
  days = a.days -ℤ b.days;
  microseconds = a.microseconds -ℤ b.microseconds;
}

-- the microseconds of hours, minutes and nanoseconds, of which those beyond a whole microsecond are cut toward zero
abbrev pub micros_of : ℤ → ℤ → ℤ → ℤ
micros_of hours minutes nanos =
    ((hours *ℤ pos 3_600_000_000) +ℤ (minutes *ℤ pos 60_000_000)) +ℤ int_div nanos (pos 1_000)

-- days beside hours, minutes and nanoseconds
abbrev pub day_time : ℤ → ℤ → ℤ → ℤ → Interval
day_time days hours minutes nanos = record {
  months = pos 0;
  days = days;
  microseconds = micros_of hours minutes nanos;
}

-- the months of years and months
abbrev pub months_in : ℤ → ℤ → ℤ
months_in years months = (years *ℤ pos 12) +ℤ months

-- the interval of years and months
abbrev pub year_month : ℤ → ℤ → Interval
year_month years months = record {
  months = months_in years months;
  days = pos 0;
  microseconds = pos 0;
}
