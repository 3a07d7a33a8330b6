-- Answers to the goals of `answer::push_read`.
use Rattle.std.proofs.Common.{Err, refl}
use Rattle.forms.proofs.answer.push_read.Goals as goal

pub returns-in-Err-clause-answer : goal.returns-in-Err-clause-answer
returns-in-Err-clause-answer g c = record { answer = Err c.in-Err.cause; is = rw c.in-Err.is refl; put = (refl, refl) }
