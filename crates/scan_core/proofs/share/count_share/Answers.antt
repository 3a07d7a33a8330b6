-- Answers to the goals of `share::count_share`.
use Rattle.std.proofs.Common.{arith}
use Rattle.scan_core.proofs.RoundingFacts.{rounded-le}
use Rattle.scan_core.proofs.share.count_share.Goals as goal

pub share_of-requires : goal.share_of-requires
share_of-requires c =
    let scale = c.scale.ensures in
    let next = c.rounded_fraction-next.ensures in
    rw next (omega (arith, rounded-le c.scale.result c.args.fraction.now c.requires.fraction))
