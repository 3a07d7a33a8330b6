-- Answers to the goals of `laws::lines_have_one_output`.
use Rattle.text_lines.proofs.OneOutput.{one_output}
use Rattle.text_lines.proofs.laws.lines_have_one_output.Goals as goal

pub returns : goal.returns
returns c = one_output c.texts_have_one_answer.ensures
