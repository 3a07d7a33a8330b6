-- Answers to the goals of `laws::faulty_input_has_no_column`.
use Rattle.interval_column.proofs.OneOutput.{not_both}
use Rattle.interval_column.proofs.laws.faulty_input_has_no_column.Goals as goal

pub returns : goal.returns
returns c = not_both c.line_is_read_in_one_way.ensures
