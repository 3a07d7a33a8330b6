-- Answers to the goals of the law `other_parts_fit`.
use Rattle.scan_core.proofs.ShareFacts.{other_part_fits}
use Rattle.scan_core.proofs.laws.other_parts_fit.Goals as goal

pub returns : goal.returns
returns c = other_part_fits
