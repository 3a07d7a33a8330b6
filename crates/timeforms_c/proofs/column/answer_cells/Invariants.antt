-- The invariant and the measure of the loop of `column::answer_cells`.
use Rattle.std.proofs.Common.{◌-◌, ◌≤◌}
use Rattle.timeforms_c.proofs.Columns.{IsAnswered}
use Rattle.timeforms_c.proofs.column.answer_cells.Given as goal

abbrev pub invariant-loop-done : goal.invariant-loop-done
invariant-loop-done l = record {
  answered : IsAnswered l.from l.to l.bytes l.offsets l.fn.out l.out l.fn.ends l.ends l.fn.codes l.codes l.done l.written;
  within : l.written ≤ l.room;
}

abbrev pub decreases-loop-done : goal.decreases-loop-done
decreases-loop-done l = l.count - l.done
