-- The invariant and the measure of the loop of `interval_cells::read_cells`.
use Rattle.std.proofs.Common.{◌-◌}
use Rattle.timeforms_c.proofs.Columns.{AreRead}
use Rattle.timeforms_c.proofs.interval_cells.read_cells.Given as goal

abbrev pub invariant-loop-done : goal.invariant-loop-done
invariant-loop-done l = record {
  read : AreRead l.style l.bytes l.offsets l.fn.months l.months l.fn.days l.days l.fn.microseconds l.microseconds l.fn.codes l.codes l.done;
}

abbrev pub decreases-loop-done : goal.decreases-loop-done
decreases-loop-done l = l.count - l.done
