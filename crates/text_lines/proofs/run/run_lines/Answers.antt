-- Answers to the goals of `run::run_lines`.
use Rattle.text_lines.specs.Outputs.{IsOutput}
use Rattle.text_lines.proofs.JudgedEnds.{means_of}
use Rattle.text_lines.proofs.run.run_lines.Goals as goal

pub returns-clause-means : goal.returns-clause-means
returns-clause-means g c = means_of c.whole_lines_of_a_front_come_first.ensures
    (IsOutput c.args.from c.args.to c.args.place) _ _ c.run_at.result c.run_at.ensures.ended
