-- Answers to the goals of `interval_cells::read_cells`.
use Rattle.std.proofs.Common.{rules, ap, set, ◌∙◌, FitsSigned, w32, w64, arith}
use Rattle.std.proofs.Math.Facts.{to_z-of_z}
use Rattle.timeforms_c.proofs.Columns.{read_none, read_push, read_all}
use Rattle.timeforms_c.proofs.interval_cells.read_cells.Goals as goal

pub loop-done-init : goal.loop-done-init
loop-done-init c = record { read = read_none _ _ _ _ _ _ _ }

pub loop-done-preserved : goal.loop-done-preserved
loop-done-preserved c =
    let months : FitsSigned w32 c.parts-code.result.0.months = search rules in
    let days : FitsSigned w32 c.parts-code.result.0.days = search rules in
    let micros : FitsSigned w64 c.parts-code.result.0.microseconds = search rules in
    let code : FitsSigned w32 c.parts-code.result.1 = search rules in
    let parts = c.parts-code.ensures in
    record {
      read =
          read_push c.args.style c.args.bytes.now c.args.offsets.now c.args.months.now c.loop-done.months _ c.args.days.now c.loop-done.days
          _ c.args.microseconds.now c.loop-done.microseconds _ c.args.codes.now c.loop-done.codes _
          c.loop-done.done c.cell_interval.result c.loop-done.invariant.read
          (omega (
            arith,
            c.min.ensures,
            c.min-2.ensures,
            c.min-places.ensures,
            c.saturating_sub.ensures,
            c.min-count.ensures,
            c.loop-done-test.true,
          ))
          (omega (
            arith,
            c.min.ensures,
            c.min-2.ensures,
            c.min-places.ensures,
            c.saturating_sub.ensures,
            c.min-count.ensures,
            c.loop-done-test.true,
          ))
          (omega (
            arith,
            c.min.ensures,
            c.min-2.ensures,
            c.min-places.ensures,
            c.saturating_sub.ensures,
            c.min-count.ensures,
            c.loop-done-test.true,
          ))
          (omega (
            arith,
            c.min.ensures,
            c.min-2.ensures,
            c.min-places.ensures,
            c.saturating_sub.ensures,
            c.min-count.ensures,
            c.loop-done-test.true,
          ))
          (omega (
            arith,
            c.min.ensures,
            c.min-2.ensures,
            c.min-places.ensures,
            c.saturating_sub.ensures,
            c.min-count.ensures,
            c.loop-done-test.true,
          ))
          c.cell_interval.ensures (ap (set c.loop-done.months c.loop-done.done) (to_z-of_z months ∙ parts.months))
          (ap (set c.loop-done.days c.loop-done.done) (to_z-of_z days ∙ parts.days))
          (ap (set c.loop-done.microseconds c.loop-done.done) (to_z-of_z micros ∙ parts.microseconds))
          (ap (set c.loop-done.codes c.loop-done.done) (to_z-of_z code ∙ parts.code));
    }

pub returns : goal.returns
returns c =
    read_all c.args.style c.args.bytes.now c.args.offsets.now c.args.months.now c.loop-done.months c.args.days.now c.loop-done.days
    c.args.microseconds.now c.loop-done.microseconds c.args.codes.now c.loop-done.codes c.min-count.result
    c.min-places.result c.loop-done.done c.loop-done.invariant.read (omega (arith, c.min.ensures, c.min-2.ensures, c.min-places.ensures))
    (omega (arith, c.saturating_sub.ensures, c.min-count.ensures)) c.loop-done-test.false
