-- Sets of units, a bit for each: cited by private contracts alone.
use Rattle.std.specs.Prelude.{Bool, ◌==◌}
use Rattle.std.specs.Int.{bit_at}
use Rattle.scan_core.specs.declared.share.Unit.{Unit as TimeUnit}
use Rattle.pg_interval_2.specs.declared.reading.units.Units.{Units}
use Rattle.pg_interval_2.specs.inside.UnitPlaces.{place_of}

-- the unit is in the set
unfoldable pub holds_unit : Units → TimeUnit → Bool
holds_unit units unit = bit_at units.bits (place_of unit) == 1
