-- Answers to the goals of `reply::write_replies`.
use Rattle.std.proofs.Common.{[], ap, arith}
use Rattle.std.proofs.lemmas.Result.{on_ok_weaker, on_err_weaker}
use Rattle.forms.specs.Lines.{lines}
use Rattle.recurrence.specs.Replies.{IsReply}
use Rattle.recurrence.proofs.Joined.{none_yet, one_more, all_put, fails_at}
use Rattle.recurrence.proofs.Outputs.{all_written, front_written, part_written}
use Rattle.recurrence.proofs.reply.write_replies.Goals as goal

pub loop-line-init : goal.loop-line-init
loop-line-init g c = record {
  so_far = rw c.new-batch.ensures (none_yet IsReply (g.K.Sink.held c.args.sink.now) [] (lines c.args.text.now));
  later = omega arith;
}

pub loop-line-preserved : goal.loop-line-preserved
loop-line-preserved g c = record {
  so_far = one_more IsReply _ _ _ _ _ _ _ _ _ c.in-Some.line.now c.texts_keep_their_order.ensures c.in-Some.ensures.lines
      c.loop-line.invariant.so_far c.in_default-put_reply.ensures.ok;
  later = omega (arith, c.loop-line.invariant.later, c.in_default-put_reply.ensures.cause.later);
}

pub returns-in-Err-clause-err : goal.returns-in-Err-clause-err
returns-in-Err-clause-err g c =
    let rest = c.lines_have_one_output.ensures.some in
    part_written c.args.text.now _ _ (fails_at IsReply _ _ _ _ _ _ _ _ c.in-Some.line.now c.texts_keep_their_order.ensures
    c.in-Some.ensures.lines rest.0 rest.1 c.loop-line.invariant.so_far c.in-Err.ensures.err)

pub returns-clause-ok : goal.returns-clause-ok
returns-clause-ok g c =
    let put = all_put IsReply _ _ _ _ (lines c.loop-line.rest.now) (lines c.args.text.now)
    (ap lines c.in_default.ensures.none) c.loop-line.invariant.so_far in
    on_ok_weaker c.flush.result (all_written c.texts_keep_their_order.ensures c.args.text.now _ _ _ _ put) c.flush.ensures.ok

pub returns-clause-err : goal.returns-clause-err
returns-clause-err g c =
    let put = all_put IsReply _ _ _ _ (lines c.loop-line.rest.now) (lines c.args.text.now)
    (ap lines c.in_default.ensures.none) c.loop-line.invariant.so_far in
    on_err_weaker c.flush.result (front_written c.texts_keep_their_order.ensures c.args.text.now _ _ _ _ put) c.flush.ensures.err
