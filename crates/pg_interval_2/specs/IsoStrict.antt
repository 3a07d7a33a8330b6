-- The strict ISO style, this project's own: the ISO style with its units in one order, each once at most, and one at least behind a `T`.
use Rattle.std.specs.Prelude.{◌≡◌, ◌≢◌, ◌⊎◌, ℕ, List, [], ◌∷◌, codes}
use Rattle.scan_core.specs.Count.{Count}
use Rattle.scan_core.specs.declared.share.Unit.{Unit as TimeUnit}
use Rattle.scan_core.specs.declared.share.Unit.TheVariants.{Year, Month, Week, Day, Hour, Minute, Second}
use Rattle.pg_interval_2.specs.Iso.{IsIso, unit_in}

-- the counts are of these units, in their order and one of each at most: the first count is of the first unit, or none is of it
abbrev pub AreInOrder : List TimeUnit → List Count → Type 0
AreInOrder units [] = Unit {0}
AreInOrder [] (c ∷ cs) = ⊥
AreInOrder (unit ∷ units) (c ∷ cs) =
    ((c.unit ≡ unit) × AreInOrder units cs) ⊎ AreInOrder units (c ∷ cs)

-- the text is in ISO style and spells these counts, and they stand in order: those before the `T`, and those behind it, at least one
abbrev pub IsIsoStrict : List ℕ → List Count → Type 0
IsIsoStrict text counts =
    (iso : IsIso unit_in text counts)
    × AreInOrder (Year ∷ Month ∷ Week ∷ Day ∷ []) iso.date_counts
    × AreInOrder (Hour ∷ Minute ∷ Second ∷ []) iso.time_counts × (iso.rest ≢ codes "T")
