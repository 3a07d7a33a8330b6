-- Answers to the goals of `laws::texts_have_one_reply`.
use Rattle.text_lines.proofs.OneOutput.{one_reply}
use Rattle.text_lines.proofs.laws.texts_have_one_reply.Goals as goal

pub returns : goal.returns
returns c = one_reply c.texts_have_one_answer.ensures
