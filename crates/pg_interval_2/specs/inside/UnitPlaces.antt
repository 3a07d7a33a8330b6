-- Units by their places, and the units that counts have.
use Rattle.std.specs.Prelude.{ℕ, Bool, true, ◌&&◌, not, ◌==◌, List, [], ◌∷◌}
use Rattle.std.specs.List.{list_any}
use Rattle.scan_core.specs.Count.{Count}
use Rattle.scan_core.specs.declared.share.Unit.{Unit as TimeUnit}
use Rattle.scan_core.specs.declared.share.Unit.TheVariants.{Year, Month, Week, Day, Hour, Minute, Second}

-- the place of a unit among the seven, the longest first
abbrev pub place_of : TimeUnit → ℕ
place_of Year = 0
place_of Month = 1
place_of Week = 2
place_of Day = 3
place_of Hour = 4
place_of Minute = 5
place_of Second = 6

-- one of the counts is of the unit
abbrev pub counts_unit : TimeUnit → List Count → Bool
counts_unit unit counts = list_any (λ c. place_of c.unit == place_of unit) counts

-- no unit is in two of the counts
abbrev pub has_distinct_units : List Count → Bool
has_distinct_units [] = true
has_distinct_units (c ∷ cs) = not (counts_unit c.unit cs) && has_distinct_units cs
