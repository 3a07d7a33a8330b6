-- Answers to the goals of the law `cells_are_one_to_one`.
use Rattle.pg_interval_2.proofs.CellFacts.{cells_alone}
use Rattle.pg_interval_2.proofs.laws.cells_are_one_to_one.Goals as goal

pub returns : goal.returns
returns c = cells_alone
