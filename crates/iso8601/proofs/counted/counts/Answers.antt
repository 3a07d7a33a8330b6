-- Answers to the goals of `counted::counts`.
use Rattle.iso8601.proofs.CountedBodies.{counts_nothing}
use Rattle.iso8601.proofs.counted.counts.Goals as goal

pub returns-then-is_done-clause-none : goal.returns-then-is_done-clause-none
returns-then-is_done-clause-none g c = counts_nothing c.args.run c.args.scan.now c.requires c.if-run.true
    (c.is_done.ensures.0 c.if-is_done.true)
