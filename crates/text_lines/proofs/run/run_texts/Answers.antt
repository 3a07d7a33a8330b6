-- Answers to the goals of `run::run_texts`.
use Rattle.text_lines.specs.declared.place.Place.TheVariants.{Whole}
use Rattle.text_lines.specs.Outputs.{IsOutput}
use Rattle.text_lines.proofs.JudgedEnds.{texts_ended, judged_nowhere}
use Rattle.text_lines.proofs.run.run_texts.Goals as goal

pub returns-in_default-clause-ended : goal.returns-in_default-clause-ended
returns-in_default-clause-ended g c = rw c.status.ensures (judged_nowhere (IsOutput c.args.from c.args.to Whole) _)

pub returns-clause-ended : goal.returns-clause-ended
returns-clause-ended g c = texts_ended c.args.from c.args.to c.answer_lines-end.new.answerer _ _ c.answer_lines-end.result
    c.status_with.result c.answer_lines-end.ensures.ended c.status_with.ensures
