-- Answers to the goals of `scanned::add_scanned`.
use Rattle.std.proofs.Common.{arith}
use Rattle.scan_core.proofs.scanned.add_scanned.Goals as goal

pub add_count-requires-clause-next : goal.add_count-requires-clause-next
add_count-requires-clause-next g c = omega (arith, c.scale.ensures, c.scanned_fraction-next.ensures.small)
