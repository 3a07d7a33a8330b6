-- Answers to the goals of `column::Column::read`.
use Rattle.interval_column.proofs.OneOutput.{faulty_is_err}
use Rattle.interval_column.proofs.column.Column.read.Goals as goal

pub returns-clause-faulty : goal.returns-clause-faulty
returns-clause-faulty c = faulty_is_err c.faulty_input_has_no_column.ensures c.args.bytes.now c.of_lines.result c.of_lines.ensures
