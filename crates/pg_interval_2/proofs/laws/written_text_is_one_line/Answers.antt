-- Answers to the goals of the law `written_text_is_one_line`.
use Rattle.pg_interval_2.proofs.OneLine.{one_line}
use Rattle.pg_interval_2.proofs.laws.written_text_is_one_line.Goals as goal

pub returns : goal.returns
returns c = one_line
