-- Answers to the goals of the law `bounds_are_days`.
use Rattle.pg_timestamp.proofs.BoundFacts.{first_is, last_is}
use Rattle.pg_timestamp.proofs.laws.bounds_are_days.Goals as goal

pub returns-clause-first : goal.returns-clause-first
returns-clause-first c = first_is

pub returns-clause-last : goal.returns-clause-last
returns-clause-last c = last_is
