-- Answers to the goals of `output::put_column`.
use Rattle.std.proofs.Common.{sym, ◌∙◌}
use Rattle.std.proofs.lemmas.Result.{on_ok_weaker, on_err_weaker}
use Rattle.interval_column.specs.inside.Ranks.{intervals_of}
use Rattle.interval_column.proofs.Putting.{on_err, front_of_longer, moves_as, fails_as}
use Rattle.interval_column.proofs.Texts.{behind, column_is, whole_column}
use Rattle.interval_column.proofs.output.put_column.Goals as goal

pub returns-in_err-put_intervals-clause-err : goal.returns-in_err-put_intervals-clause-err
returns-in_err-put_intervals-clause-err g c =
    on_err _ c.from_residual.result
    (fails_as _ _ c.args.batch.now.bytes _ _ (sym (column_is c.args.style (intervals_of c.args.ranks.now)))
    (front_of_longer _ _ c.args.batch.now.bytes _ (behind c.args.style (intervals_of c.args.ranks.now)) c.in_err-put_intervals.ensures.err))

pub returns-clause-ok : goal.returns-clause-ok
returns-clause-ok g c =
    on_ok_weaker c.put_text.result
    (λ moved. moves_as _ _ c.args.batch.now.bytes _ _ _ (whole_column c.args.style (intervals_of c.args.ranks.now) c.as_str.result.now
    (c.as_str.ensures.value ∙ c.summary-summary.ensures.bytes))
    (c.waiting_texts_keep_their_order.ensures.next _ _ _ c.args.batch.now.bytes _ _ _ _ c.in_ok-put_intervals.ensures.ok moved))
    c.put_text.ensures.ok

pub returns-clause-err : goal.returns-clause-err
returns-clause-err g c =
    on_err_weaker c.put_text.result
    (λ failed. fails_as _ _ c.args.batch.now.bytes _ _ (whole_column c.args.style (intervals_of c.args.ranks.now) c.as_str.result.now
    (c.as_str.ensures.value ∙ c.summary-summary.ensures.bytes))
    (c.waiting_texts_keep_their_order.ensures.next_fails _ _ _ c.args.batch.now.bytes _ _ _ c.in_ok-put_intervals.ensures.ok failed))
    c.put_text.ensures.err
