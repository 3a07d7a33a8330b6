-- Answers to the goals of `totals::Totals::add`.
use Rattle.std.proofs.Common.{FitsSigned, w32, w64, ap, arith, rules}
use Rattle.std.proofs.lemmas.Int.{ints}
use Rattle.scan_core.specs.Sums.{Added}
use Rattle.scan_core.proofs.totals.Totals.add.Goals as goal

pub invariant_of-self : goal.invariant_of-self
invariant_of-self c =
    let months : FitsSigned w32 c.args.share.months = search rules in
    let days : FitsSigned w32 c.args.share.days = search rules in
    let micros : FitsSigned w64 c.args.share.micros = search rules in
    let adds = ap (λ (sums : Added). sums.adds) c.self.view_is in
    let i = c.self.invariant in (
      (omega (arith, ints, i.0.0), omega (arith, ints, i.0.1)),
      (omega (arith, ints, i.1.0), omega (arith, ints, i.1.1)),
      (omega (arith, ints, i.2.0), omega (arith, ints, i.2.1)),
    )

pub returns-clause-months : goal.returns-clause-months
returns-clause-months c =
    let fits : FitsSigned w32 c.args.share.months = search rules in
    let adds = ap (λ (sums : Added). sums.adds) c.self.view_is in
    let sum = ap (λ (sums : Added). sums.months) c.self.view_is in
    omega (arith, ints, c.self.invariant.0.0, c.self.invariant.0.1)

pub returns-clause-days : goal.returns-clause-days
returns-clause-days c =
    let fits : FitsSigned w32 c.args.share.days = search rules in
    let adds = ap (λ (sums : Added). sums.adds) c.self.view_is in
    let sum = ap (λ (sums : Added). sums.days) c.self.view_is in
    omega (arith, ints, c.self.invariant.1.0, c.self.invariant.1.1)

pub returns-clause-micros : goal.returns-clause-micros
returns-clause-micros c =
    let fits : FitsSigned w64 c.args.share.micros = search rules in
    let adds = ap (λ (sums : Added). sums.adds) c.self.view_is in
    let sum = ap (λ (sums : Added). sums.micros) c.self.view_is in
    omega (arith, ints, c.self.invariant.2.0, c.self.invariant.2.1)
