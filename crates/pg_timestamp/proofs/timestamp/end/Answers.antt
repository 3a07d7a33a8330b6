-- Answers to the goals of `timestamp::end`.
use Rattle.pg_timestamp.proofs.PlaceFacts.{none_end}
use Rattle.pg_timestamp.proofs.timestamp.end.Goals as goal

pub returns-in-None-clause-none : goal.returns-in-None-clause-none
returns-in-None-clause-none c = none_end c.timed_end.result c.args.text.now c.in-None.ensures.none c.timed_end.ensures.none
