-- Columns: intervals in order, and their sum.
use Rattle.std.specs.Prelude.{Bool, ◌&&◌, List, [], ◌∷◌, pos, Option, Some, None, if◌then◌else◌}
use Rattle.std.specs.List.Sorted.{IsPermutation, IsSorted}
use Rattle.scan_core.specs.Shares.{fits_type}
use Rattle.scan_core.specs.declared.share.Part.TheVariants.{Months, Days, Micros}
use Rattle.pg_interval_2.specs.Sums.{plus}
use Rattle.pg_interval_2.specs.declared.interval.Interval.{Interval}
use Rattle.interval_column.specs.Order.{order_of}

-- the intervals in order, each as often as it is among those that were read
pub record IsColumn (denoted sorted : List Interval) : Type 0 where
  pub each : IsPermutation denoted sorted
  pub order : IsSorted order_of sorted

-- the sum of each part by itself
abbrev pub sum_by_part : List Interval → Interval
sum_by_part [] = record { months = pos 0; days = pos 0; microseconds = pos 0 }
sum_by_part (t ∷ more) = plus t (sum_by_part more)

-- each part is in its type: months and days are `i32`, microseconds are `i64`
abbrev pub fits_types : Interval → Bool
fits_types t =
    fits_type Months t.months && (fits_type Days t.days && fits_type Micros t.microseconds)

-- the sum, or none where a part of it leaves its type
unfoldable pub total_of : List Interval → Option Interval
total_of intervals =
    if fits_types (sum_by_part intervals) then Some (sum_by_part intervals) else None
