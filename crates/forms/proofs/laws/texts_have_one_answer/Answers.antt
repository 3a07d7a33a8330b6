-- Answers to the goals of `laws::texts_have_one_answer`.
use Rattle.forms.proofs.OneReply.{one_answer}
use Rattle.forms.proofs.laws.texts_have_one_answer.Goals as goal

pub returns : goal.returns
returns c = one_answer c.all_lawful.ensures (λ from to text answer. (c.answers_are_readings_written.ensures from to text answer).0)
