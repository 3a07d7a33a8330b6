-- Answers to the goals of `reply::put_series`.
use Rattle.std.proofs.Common.{◌∙◌, ap}
use Rattle.std.proofs.lemmas.Result.{on_ok_weaker, on_err_weaker}
use Rattle.std.proofs.Math.Facts.{to_z-of_z}
use Rattle.recurrence.specs.Series.{IsSeries}
use Rattle.recurrence.specs.Replies.{stop_text}
use Rattle.recurrence.proofs.Millis.{all_writable}
use Rattle.recurrence.proofs.Joined.{on_err}
use Rattle.recurrence.proofs.SeriesReplies.{series_put, series_fails, series_fails_last}
use Rattle.recurrence.proofs.reply.put_series.Goals as goal

pub put_left-requires : goal.put_left-requires
put_left-requires g c =
    let series : IsSeries c.args.start c.args.step c.args.last c.new-series.result.left c.new-series.result.stop = rw
    (to_z-of_z c.ranges.start) at c.new-series.ensures.series in
    all_writable c.civil_dates_are_calendar_dates.ensures c.args.start c.args.step 0 c.new-series.result.left series.each c.requires.start
    c.requires.step

pub returns-in_err-put_left-clause-err : goal.returns-in_err-put_left-clause-err
returns-in_err-put_left-clause-err g c =
    let series : IsSeries c.args.start c.args.step c.args.last c.new-series.result.left c.new-series.result.stop = rw
    (to_z-of_z c.ranges.start) at c.new-series.ensures.series in
    on_err _ c.from_residual.result (series_fails c.args.start c.args.step c.args.last _ _ _ _ _ series c.in_err-put_left.ensures.err)

pub returns-clause-ok : goal.returns-clause-ok
returns-clause-ok g c =
    let series : IsSeries c.args.start c.args.step c.args.last c.new-series.result.left c.new-series.result.stop = rw
    (to_z-of_z c.ranges.start) at c.new-series.ensures.series in
    on_ok_weaker c.put_stop.result (λ q. series_put c.texts_keep_their_order.ensures c.args.start c.args.step c.args.last _ _ _ _ _ _ _ _
    series c.in_ok-put_left.ensures.ok (q.0, q.1 ∙ ap stop_text (c.stopped.ensures ∙ c.in_ok-put_left.ensures.stopped), q.2))
    c.put_stop.ensures.ok

pub returns-clause-err : goal.returns-clause-err
returns-clause-err g c =
    let series : IsSeries c.args.start c.args.step c.args.last c.new-series.result.left c.new-series.result.stop = rw
    (to_z-of_z c.ranges.start) at c.new-series.ensures.series in
    on_err_weaker c.put_stop.result (λ q. series_fails_last c.texts_keep_their_order.ensures c.args.start c.args.step c.args.last _ _ _ _ _
    _ _ series c.in_ok-put_left.ensures.ok (q.0, q.1 ∙ ap stop_text (c.stopped.ensures ∙ c.in_ok-put_left.ensures.stopped), q.2))
    c.put_stop.ensures.err
