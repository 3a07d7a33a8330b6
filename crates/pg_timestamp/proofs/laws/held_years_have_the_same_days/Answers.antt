-- Answers to the goals of the law `held_years_have_the_same_days`.
use Rattle.pg_timestamp.proofs.HeldFacts.{exists_held}
use Rattle.pg_timestamp.proofs.laws.held_years_have_the_same_days.Goals as goal

pub returns : goal.returns
returns c = exists_held
