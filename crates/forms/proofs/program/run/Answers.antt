-- Answers to the goals of `program::run`.
use Rattle.forms.proofs.Ends.{ends-nowhere}
use Rattle.forms.proofs.UncutLines.{ended_of}
use Rattle.forms.proofs.program.run.Goals as goal

pub returns-in_default-clause-ended : goal.returns-in_default-clause-ended
returns-in_default-clause-ended g c = ends-nowhere c.args.limit _

pub returns-clause-ended : goal.returns-clause-ended
returns-clause-ended g c = ended_of c.args.limit _ _ _ _ c.answer_lines.result c.answer_lines.ensures.ended

pub returns-clause-no_memory : goal.returns-clause-no_memory
returns-clause-no_memory g c = λ is. absurd (c.answer_lines.ensures.memory is)
