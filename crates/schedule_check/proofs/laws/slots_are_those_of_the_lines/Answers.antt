-- Answers to the goals of `laws::slots_are_those_of_the_lines`.
use Rattle.schedule_check.proofs.laws.slots_are_those_of_the_lines.Goals as goal

pub returns : goal.returns
returns c = λ input ordered h. (h.0.slots, h.0.read, h.0.order.same)
