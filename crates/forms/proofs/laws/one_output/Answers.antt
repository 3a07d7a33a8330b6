-- Answers to the goals of the law `one_output`.
use Rattle.forms.proofs.OneReply.{one_answer, one_output}
use Rattle.forms.proofs.laws.one_output.Goals as goal

pub returns : goal.returns
returns c = one_output (one_answer c.all_lawful.ensures (λ from to text answer.
    (c.answers_are_readings_written.ensures from to text answer).0))
