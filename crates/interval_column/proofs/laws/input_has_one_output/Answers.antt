-- Answers to the goals of `laws::input_has_one_output`.
use Rattle.interval_column.proofs.OneOutput.{one_output}
use Rattle.interval_column.proofs.laws.input_has_one_output.Goals as goal

pub returns-clause-output : goal.returns-clause-output
returns-clause-output c style input a b s t h k = (one_output c.input_has_one_column_or_fault.ensures style input a b s t h k).0

pub returns-clause-status : goal.returns-clause-status
returns-clause-status c style input a b s t h k = (one_output c.input_has_one_column_or_fault.ensures style input a b s t h k).1
