-- Counts whose units go from the greater to the smaller count no unit twice.
use Rattle.std.proofs.Common.{◌≡◌, ℕ, suc, ◌<◌, ◌≤◌, Bool, true, false, cond, not, ◌==◌, IsTrue, List, [], ◌∷◌, ◌++◌, filter, refl, ap}
use Rattle.std.proofs.Common.{arith}
use Rattle.std.proofs.lemmas.Bool.{and_from, ne_eqb}
use Rattle.std.specs.List.{list_any}
use Rattle.scan_core.specs.Count.{Count}
use Rattle.pg_interval_2.specs.inside.UnitPlaces.{place_of, has_distinct_units}

-- the units' places rise, from this one on
abbrev pub RisesFrom : ℕ → List Count → Type 0
RisesFrom low [] = Unit {0}
RisesFrom low (c ∷ cs) = (low ≤ place_of c.unit) × RisesFrom (suc (place_of c.unit)) cs

pub rises_lower : (low high : ℕ) (counts : List Count) → low ≤ high → RisesFrom high counts → RisesFrom low counts
rises_lower low high [] below rises = tt
rises_lower low high (c ∷ cs) below rises = (omega arith, rises.1)

-- a count that is there or not, in front of counts of smaller units
pub rises_front : (absent : Bool) (c : Count) (counts : List Count) → RisesFrom (suc (place_of c.unit)) counts
    → RisesFrom (place_of c.unit) (cond absent [] (c ∷ []) ++ counts)
rises_front true c counts rises = rises_lower _ _ counts (omega arith) rises
rises_front false c counts rises = (omega arith, rises)

rises_kept : (kept : Bool) (low : ℕ) (c : Count) (all rest : List Count) → low ≤ place_of c.unit → RisesFrom (suc (place_of c.unit)) rest
    → RisesFrom low (cond kept (c ∷ rest) rest)
rises_kept true low c all rest below rises = (below, rises)
rises_kept false low c all rest below rises = rises_lower _ _ rest (omega arith) rises

pub rises_filter : (test : Count → Bool) (low : ℕ) (counts : List Count) → RisesFrom low counts → RisesFrom low (filter test counts)
rises_filter test low [] rises = tt
rises_filter test low (c ∷ cs) rises = rises_kept (test c) low c cs (filter test cs) rises.0
    (rises_filter test (suc (place_of c.unit)) cs rises.1)

unit_below : (place low : ℕ) (counts : List Count) → place < low → RisesFrom low counts
    → list_any (λ c. place_of c.unit == place) counts ≡ false
unit_below place low [] below rises = refl
unit_below place low (c ∷ cs) below rises =
    let other : (place_of c.unit == place) ≡ false = ne_eqb _ _ (λ same. omega (arith, same, rises.0)) in
    rw other (unit_below place (suc (place_of c.unit)) cs (omega (arith, rises.0)) rises.1)

pub distinct_units : (low : ℕ) (counts : List Count) → RisesFrom low counts → IsTrue (has_distinct_units counts)
distinct_units low [] rises = refl
distinct_units low (c ∷ cs) rises =
    and_from _ _ (ap not (unit_below (place_of c.unit) (suc (place_of c.unit)) cs (omega arith) rises.1))
    (distinct_units (suc (place_of c.unit)) cs rises.1)
