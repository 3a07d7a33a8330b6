-- Answers to the goals of `counted::perhaps_clock`.
use Rattle.iso8601.proofs.CountedBodies.{clock_left}
use Rattle.iso8601.proofs.counted.perhaps_clock.Goals as goal

pub returns-then-run-clause-none : goal.returns-then-run-clause-none
returns-then-run-clause-none g c = clock_left c.args.run c.args.scan.now c.requires c.if-run.true
