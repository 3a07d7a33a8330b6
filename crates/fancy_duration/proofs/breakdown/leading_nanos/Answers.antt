-- Answers to the goals of `breakdown::leading_nanos`.
use Rattle.fancy_duration.proofs.Breakdowns.{truncated_by}
use Rattle.fancy_duration.proofs.breakdown.leading_nanos.Goals as goal

pub returns-clause-value : goal.returns-clause-value
returns-clause-value c = truncated_by _ _ _ _ _ c.parts_from_first-parts.ensures c.min.ensures c.left_after.ensures.value
