-- Answers to the goals of `piece_lines::answer_last`.
use Rattle.std.proofs.Common.{◌<◌, length, arith}
use Rattle.std.proofs.lemmas.Bool.Decides.{nat_tests}
use Rattle.std.proofs.lemmas.Result.{on_ok_weaker, on_err_weaker}
use Rattle.forms.proofs.Writes.{on_err}
use Rattle.forms.proofs.Batches.{last_answered, last_fails, last_unwritten}
use Rattle.forms.proofs.piece_lines.answer_last.Goals as goal

pub returns-in_err-answer-clause-err : goal.returns-in_err-answer-clause-err
returns-in_err-answer-clause-err g c =
    let some : 0 < length c.args.line.now = grind (arith, nat_tests) in
    on_err _ c.from_residual.result (last_fails g.A.AnswersLines.says c.args.answerer.now _ _ c.args.line.now
    (g.A.Batch.Waits.bytes c.args.batch.now) c.requires.empty some c.in_err-answer.ensures.err)

pub returns-clause-ok : goal.returns-clause-ok
returns-clause-ok g c =
    let some : 0 < length c.args.line.now = grind (arith, nat_tests) in
    on_ok_weaker c.write_out.result (λ all. last_answered g.A.AnswersLines.says c.args.answerer.now c.answer.new.self _ _ _ c.args.line.now
    (g.A.Batch.Waits.bytes c.args.batch.now) _ c.requires.empty some c.in_ok-answer.ensures.ok all) c.write_out.ensures.ok

pub returns-clause-err : goal.returns-clause-err
returns-clause-err g c =
    let some : 0 < length c.args.line.now = grind (arith, nat_tests) in
    on_err_weaker c.write_out.result (λ front. last_unwritten g.A.AnswersLines.says c.args.answerer.now c.answer.new.self _ _ _
    c.args.line.now (g.A.Batch.Waits.bytes c.args.batch.now) _ c.requires.empty some c.in_ok-answer.ensures.ok front)
    c.write_out.ensures.err
