-- Answers to the goals of `duration::timeforms_duration_to_text`.
use Rattle.std.proofs.Common.{rules, FitsSigned, w32}
use Rattle.forms.specs.Answers.{bytes_of}
use Rattle.timeforms_c.proofs.Rooms.{answers_as}
use Rattle.timeforms_c.proofs.duration.timeforms_duration_to_text.Goals as goal

pub returns-clause-answer : goal.returns-clause-answer
returns-clause-answer c answer below writes =
    let same = (c.write_value.ensures.answer answer).1 writes in
    let fits : FitsSigned w32 c.put_answer.result = search rules in
    answers_as (bytes_of c.write_value.result) answer _ _ c.put_answer.result same fits c.put_answer.ensures
