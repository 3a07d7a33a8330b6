-- The units of the strict ISO style in their order: cited by private contracts alone.
use Rattle.std.specs.Prelude.{Bool, true, false, List, [], ◌∷◌}
use Rattle.scan_core.specs.declared.share.Unit.{Unit as TimeUnit}
use Rattle.scan_core.specs.declared.share.Unit.TheVariants.{Year, Month, Week, Day, Hour, Minute, Second}

-- the units that may stand before the `T`, and behind it, in their order
abbrev pub units_in_order : Bool → List TimeUnit
units_in_order false = Year ∷ Month ∷ Week ∷ Day ∷ []
units_in_order true = Hour ∷ Minute ∷ Second ∷ []
