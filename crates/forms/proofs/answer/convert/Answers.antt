-- Answers to the goals of `answer::convert`.
use Rattle.std.proofs.Common.{Ok, refl}
use Rattle.forms.proofs.answer.convert.Goals as goal

pub returns-in-Err-from_str-clause-no_memory : goal.returns-in-Err-from_str-clause-no_memory
returns-in-Err-from_str-clause-no_memory c = λ is. (c.in-Ok.out.bytes, (c.in-Ok.ensures.answer (Ok c.in-Ok.out.bytes)).0 refl)
