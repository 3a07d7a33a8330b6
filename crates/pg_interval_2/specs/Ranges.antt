-- The intervals that the type `Interval` has.
use Rattle.std.specs.Prelude.{FitsSigned}
use Rattle.std.specs.Int.{w32, w64}
use Rattle.pg_interval_2.specs.declared.interval.Interval.{Interval}

-- months and days are within `i32`, and microseconds within `i64`
pub record IsInRange (t : Interval) : Type 0 where
  pub months : FitsSigned w32 t.months
  pub days : FitsSigned w32 t.days
  pub microseconds : FitsSigned w64 t.microseconds
