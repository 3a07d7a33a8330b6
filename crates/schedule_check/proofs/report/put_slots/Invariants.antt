-- The invariant of the loop of `report::put_slots`.
use Rattle.std.proofs.Common.{◌≤◌, take}
use Rattle.forms.specs.Waiting.{Moves}
use Rattle.schedule_check.specs.Reports.{slot_lines}
use Rattle.schedule_check.proofs.report.put_slots.Given as goal

abbrev pub invariant-loop-slot : goal.invariant-loop-slot
invariant-loop-slot g l = record {
  moved : Moves (g.K.Sink.held l.initial.sink) (g.K.Sink.held l.sink) l.initial.batch.bytes
      (slot_lines (take l.slot-index l.slots)) l.batch.bytes;
  later : g.K.Sink.faults l.initial.sink ≤ g.K.Sink.faults l.sink;
}
