-- Answers to the goals of `reading::units::Units::insert`.
use Rattle.std.proofs.Common.{refl}
use Rattle.std.specs.Int.{w8}
use Rattle.std.proofs.lemmas.Nat.Bits.{bit_at_set_same, bit_at_set_other}
use Rattle.pg_interval_2.specs.inside.UnitPlaces.{place_of}
use Rattle.pg_interval_2.specs.inside.UnitSets.{holds_unit}
use Rattle.pg_interval_2.proofs.UnitFacts.{place_small}
use Rattle.pg_interval_2.proofs.reading.units.Units.insert.Goals as goal

pub returns-clause-same : goal.returns-clause-same
unfolding holds_unit
returns-clause-same c =
    let place = c.place_of.ensures in
    let same = bit_at_set_same w8 c.args.self.now.bits (place_of c.args.unit) (place_small c.args.unit) in
    rw (place, same) refl

pub returns-clause-others : goal.returns-clause-others
unfolding holds_unit
returns-clause-others c =
    λ other apart.
    let place = c.place_of.ensures in
    let same = bit_at_set_other w8 c.args.self.now.bits (place_of c.args.unit) (place_small c.args.unit) (place_of other) apart in
    rw (place, same) refl
