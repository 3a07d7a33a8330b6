-- Answers to the goals of `cell::cell_answer`.
use Rattle.std.proofs.Common.{inr}
use Rattle.timeforms_c.proofs.cell.cell_answer.Goals as goal

pub returns-in-Some-clause-answer : goal.returns-in-Some-clause-answer
returns-in-Some-clause-answer c = inr (c.in-Some.text.now, c.in-Some.ensures.found, c.text_answer.ensures.answer)
