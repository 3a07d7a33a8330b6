-- Answers to the goals of `laws::input_has_one_column_or_fault`.
use Rattle.interval_column.proofs.OneOutput.{one_reading}
use Rattle.interval_column.proofs.laws.input_has_one_column_or_fault.Goals as goal

pub returns : goal.returns
returns c = one_reading c.line_is_read_in_one_way.ensures
