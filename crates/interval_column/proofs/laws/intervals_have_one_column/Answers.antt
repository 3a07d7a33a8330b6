-- Answers to the goals of `laws::intervals_have_one_column`.
use Rattle.interval_column.proofs.OneColumn.{one_column}
use Rattle.interval_column.proofs.laws.intervals_have_one_column.Goals as goal

pub returns : goal.returns
returns c = one_column
