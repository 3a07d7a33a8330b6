-- Answers to the goals of `answer::written`.
use Rattle.forms.specs.Answers.{Then}
use Rattle.forms.specs.Forms.{Writes}
use Rattle.forms.proofs.Putting.{alone, refuses}
use Rattle.forms.proofs.answer.written.Goals as goal

pub returns-in-Ok-clause-answer : goal.returns-in-Ok-clause-answer
returns-in-Ok-clause-answer c = alone (Then (Writes c.args.to) c.args.read) _ _ c.new-out.ensures c.in-Ok.ensures.answer

pub returns-in-Err-clause-answer : goal.returns-in-Err-clause-answer
returns-in-Err-clause-answer c = (refuses (Then (Writes c.args.to) c.args.read) _ _ c.in-Err.cause c.in-Err.ensures.answer).0
