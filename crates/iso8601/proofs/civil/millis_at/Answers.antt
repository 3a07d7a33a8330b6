-- Answers to the goals of `civil::millis_at`.
use Rattle.std.proofs.Common.{rules, refl, pos, FitsSigned, arith}
use Rattle.std.specs.Prelude.{◌+ℤ◌, ◌-ℤ◌, ◌*ℤ◌}
use Rattle.std.specs.Int.{w32, w64}
use Rattle.std.proofs.lemmas.Int.{ints, to_z-of_z}
use Rattle.iso8601.proofs.civil.millis_at.Goals as goal

pub returns : goal.returns
returns c =
    let f : FitsSigned w32 c.args.day = search rules in
    let g : FitsSigned w32 c.args.offset = search rules in
    let day = simp to_z-of_z at c.from.ensures in
    let offset = simp to_z-of_z at c.from-3.ensures in
    let clock = c.from-2.ensures in
    let of_days : FitsSigned w64 (pos 86_400_000 *ℤ c.from.result) = omega (arith, ints, day) in
    let local : FitsSigned w64 ((pos 86_400_000 *ℤ c.from.result) +ℤ c.from-2.result) = omega (arith, ints, day, clock) in
    let ahead : FitsSigned w64 (pos 1000 *ℤ c.from-3.result) = omega (arith, ints, offset) in
    let whole : FitsSigned w64 (((pos 86_400_000 *ℤ c.from.result) +ℤ c.from-2.result) -ℤ (pos 1000 *ℤ c.from-3.result)) =
    omega (arith, ints, day, clock, offset) in
    let d : FitsSigned w64 c.from.result = omega (arith, ints, day) in
    let e : FitsSigned w64 c.from-2.result = omega (arith, ints, clock) in
    let h : FitsSigned w64 c.from-3.result = omega (arith, ints, offset) in
    simp to_z-of_z (rw (day, clock, offset) refl)
