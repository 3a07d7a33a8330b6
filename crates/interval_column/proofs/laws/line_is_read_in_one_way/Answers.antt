-- Answers to the goals of `laws::line_is_read_in_one_way`.
use Rattle.interval_column.proofs.OneReading.{one_line}
use Rattle.interval_column.proofs.laws.line_is_read_in_one_way.Goals as goal

pub returns : goal.returns
returns c = one_line c.text_has_one_list_of_counts.ensures
