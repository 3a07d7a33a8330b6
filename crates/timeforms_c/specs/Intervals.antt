-- An interval as C has it, and the numbers that say how two of them are ordered.
use Rattle.std.specs.Prelude.{ℤ, pos, neg_ℤ, ◌+ℤ◌, ◌*ℤ◌}
use Rattle.std.specs.declared.cmp.Ordering.{Ordering}
use Rattle.std.specs.declared.cmp.Ordering.TheVariants.{Less, Equal, Greater}
use Rattle.pg_interval_2.specs.declared.interval.Interval.{Interval}
use Rattle.timeforms_c.specs.declared.interval.TimeformsInterval.{TimeformsInterval}

-- the interval that C's has the parts of
abbrev pub seen : TimeformsInterval → Interval
seen t = record {
  months = t.months;
  days = t.days;
  microseconds = t.microseconds;
}

-- no months, no days and no microseconds
abbrev pub no_time : Interval
no_time = record {
  months = pos 0;
  days = pos 0;
  microseconds = pos 0;
}

-- the nanoseconds of so many seconds, and of nanoseconds beyond them
abbrev pub nanos_of : ℤ → ℤ → ℤ
nanos_of seconds nanoseconds = seconds *ℤ pos 1_000_000_000 +ℤ nanoseconds

-- the number that a comparison answers: below 0, 0 or above 0
abbrev pub number_of_order : Ordering → ℤ
number_of_order Less = neg_ℤ (pos 1)
number_of_order Equal = pos 0
number_of_order Greater = pos 1
