-- Answers to the goals of `piece_lines::answer_piece`.
use Rattle.std.proofs.Common.{ap, length, arith}
use Rattle.forms.proofs.Writes.{on_err}
use Rattle.forms.proofs.Batches.{going_none, going_put, going_front, going_fails, going_all}
use Rattle.forms.proofs.piece_lines.answer_piece.Goals as goal

pub loop-line-init : goal.loop-line-init
loop-line-init g c = record {
  going = going_none g.A.AnswersLines.says c.args.most c.args.answerer.now _ c.args.kept.now.items c.args.piece.now _ c.requires.empty;
  len = c.requires.len;
  room = c.requires.room;
  held = omega arith;
  later = omega arith;
}

pub returns-in_err-answer_joined-clause-err : goal.returns-in_err-answer_joined-clause-err
returns-in_err-answer_joined-clause-err g c =
    let found = c.in-Some.ensures.found in
    on_err _ c.from_residual.result (going_fails g.A.AnswersLines.says c.args.most _ _ _ _ _ c.args.kept.now.items c.args.piece.now
    c.loop-line.kept.items c.loop-line.rest.now c.in-Some.line.now c.in-Some.after.now
    (g.A.Batch.Waits.bytes c.loop-line.batch) c.loop-line.invariant.going found.0 found.1 c.in_err-answer_joined.ensures.err)

pub loop-line-preserved : goal.loop-line-preserved
loop-line-preserved g c =
    let found = c.in-Some.ensures.found in
    let empty = ap length c.answer_joined.ensures.none in
    let put = going_put g.A.AnswersLines.says c.args.most _ _ _ _ _ _ c.args.kept.now.items c.args.piece.now c.loop-line.kept.items
    c.loop-line.rest.now c.in-Some.line.now c.in-Some.after.now (g.A.Batch.Waits.bytes c.loop-line.batch)
    (g.A.Batch.Waits.bytes c.answer_joined.new.batch) c.loop-line.invariant.going found.0 found.1 c.in_ok-answer_joined.ensures.ok in
    record {
      going = rw c.answer_joined.ensures.none put;
      len = omega (arith, empty, c.answer_joined.new.kept.ok.0);
      room = omega (arith, c.loop-line.invariant.room, c.answer_joined.ensures.room);
      held = omega (arith, c.loop-line.invariant.held, c.answer_joined.ensures.room);
      later = omega (arith, c.in_ok-answer_joined.ensures.cause.later);
    }

pub returns-in_err-write_out-clause-err : goal.returns-in_err-write_out-clause-err
returns-in_err-write_out-clause-err g c =
    on_err _ c.from_residual-in_err-write_out.result (going_front g.A.AnswersLines.says c.args.most _ _ _ _ _ c.args.kept.now.items
    c.args.piece.now c.loop-line.kept.items c.loop-line.rest.now
    (g.A.Batch.Waits.bytes c.loop-line.batch) c.loop-line.invariant.going c.in_err-write_out.ensures.err)

pub returns-clause-ok : goal.returns-clause-ok
returns-clause-ok g c =
    going_all g.A.AnswersLines.says c.args.most _ _ _ _ _ c.args.kept.now.items c.args.piece.now c.loop-line.kept.items c.loop-line.rest.now
    (g.A.Batch.Waits.bytes c.loop-line.batch) c.keep.new.kept.items c.loop-line.invariant.going c.in_default.ensures.none
    c.in_ok-write_out.ensures.ok c.keep.ensures.items
