-- Answers to the goals of `looked_digits::looked_tail`.
use Rattle.std.proofs.Common.{arith, refl, ◌≡◌, ◌+◌, ◌-◌, []}
use Rattle.scan_core.proofs.RoundingFacts.{rounded_none}
use Rattle.scan_core.proofs.looked_digits.looked_tail.Goals as goal

pub returns-else-point-end-clause-value : goal.returns-else-point-end-clause-value
returns-else-point-end-clause-value g c =
    let none : c.args.end - (c.args.point + 1) ≡ 0 = omega arith in
    rw none (rounded_none c.args.scale [] refl)
