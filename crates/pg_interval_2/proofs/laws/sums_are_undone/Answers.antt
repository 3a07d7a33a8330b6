-- Answers to the goals of the law `sums_are_undone`.
use Rattle.pg_interval_2.proofs.SumFacts.{plus-swapped, less-plus, plus-less}
use Rattle.pg_interval_2.proofs.laws.sums_are_undone.Goals as goal

pub returns-clause-swapped : goal.returns-clause-swapped
returns-clause-swapped c = plus-swapped

pub returns-clause-undone : goal.returns-clause-undone
returns-clause-undone c = less-plus

pub returns-clause-restored : goal.returns-clause-restored
returns-clause-restored c = plus-less
