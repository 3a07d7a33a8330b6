-- Answers to the goals of `laws::inputs_have_one_output`.
use Rattle.std.proofs.Common.{true}
use Rattle.text_lines.proofs.OneOutput.{one_judgement}
use Rattle.text_lines.proofs.laws.inputs_have_one_output.Goals as goal

pub returns : goal.returns
returns c = λ from to place. one_judgement c.texts_have_one_answer.ensures from to place true
