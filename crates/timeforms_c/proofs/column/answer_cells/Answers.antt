-- Answers to the goals of `column::answer_cells`.
use Rattle.std.proofs.Common.{rules, refl, ap, set, FitsSigned, w32, arith}
use Rattle.std.proofs.Math.Facts.{to_z-of_z}
use Rattle.timeforms_c.specs.inside.Cells.{shown}
use Rattle.timeforms_c.proofs.Columns.{answered_none, answered_push}
use Rattle.timeforms_c.proofs.column.answer_cells.Goals as goal

pub loop-done-init : goal.loop-done-init
loop-done-init c = record {
  answered = answered_none c.args.from c.args.to c.args.bytes.now c.args.offsets.now c.args.out.now c.args.ends.now _ c.args.codes.now
      c.requires refl;
  within = omega arith;
}

pub loop-done-preserved : goal.loop-done-preserved
loop-done-preserved c =
    let fits : FitsSigned w32 c.in-Some.code = search rules in
    let puts = c.in-Some.ensures.found in
    let before = c.loop-done.invariant in
    let count = c.cell_count-count.ensures in
    let room = c.min-room.ensures in
    let test = c.loop-done-test.true in record {
      answered =
          answered_push c.args.from c.args.to c.args.bytes.now c.args.offsets.now c.args.out.now c.loop-done.out c.put_answer.new.out
          c.args.ends.now c.loop-done.ends _ c.args.codes.now c.loop-done.codes _ c.loop-done.done c.loop-done.written
          c.in-Some.len c.min-room.result c.in-Some.code (shown c.cell_answer-answer.result) before.answered (omega (arith, count, test))
          (omega (arith, count, test)) (omega (arith, count, test))
          (omega (arith, room)) (omega (arith, room)) c.cell_answer-answer.ensures.answer puts
          (ap (set c.loop-done.codes c.loop-done.done) (to_z-of_z fits)) refl;
      within = omega (arith, puts.within, puts.count);
    }
