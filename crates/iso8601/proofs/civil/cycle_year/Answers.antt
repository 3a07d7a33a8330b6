-- Answers to the goals of `civil::cycle_year`.
use Rattle.std.proofs.Common.{FitsSigned, arith}
use Rattle.std.specs.Int.{w32}
use Rattle.std.proofs.lemmas.Int.{ints, to_z-of_z}
use Rattle.iso8601.proofs.Cycle.{cycle_of}
use Rattle.iso8601.proofs.civil.cycle_year.Goals as goal

pub returns-clause-cycled : goal.returns-clause-cycled
returns-clause-cycled c =
    let f : FitsSigned w32 c.args.year = c.ranges.year in
    let value = simp to_z-of_z at c.rem_euclid.ensures.value in
    let cycle = cycle_of c.args.year in
    (cycle.0, omega (arith, ints, value, cycle.1, c.rem_euclid.ensures))
