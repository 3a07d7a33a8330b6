-- Answers to the goals of `time::fraction`.
use Rattle.pg_timestamp.proofs.TimeFacts.{pointed_found}
use Rattle.pg_timestamp.proofs.time.fraction.Goals as goal

pub returns-in-Some-clause-found : goal.returns-in-Some-clause-found
returns-in-Some-clause-found c =
    let found = c.in-Some.ensures.found in
    pointed_found c.args.text.now c.split_point-point.result.1.now c.split_point-point.result.0 c.in-Some.micros
    c.split_point-point.ensures.point c.split_point-point.ensures.rest c.if-point.true found
