-- Answers to the goals of the law `answers_are_read_back`.
use Rattle.std.proofs.Common.{Ok}
use Rattle.forms.proofs.Lawful.{answer_back}
use Rattle.forms.proofs.laws.answers_are_read_back.Goals as goal

pub returns : goal.returns
returns c = λ from to text out answer. answer_back from to (c.all_lawful.ensures from) (c.all_lawful.ensures to) text out
    ((c.answers_are_readings_written.ensures from to text (Ok out)).0 answer)
