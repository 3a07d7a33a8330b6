-- The invariant of the loop of `series_lines::put_left`.
use Rattle.std.proofs.Common.{◌≡◌, ◌≤◌}
use Rattle.recurrence.specs.inside.Written.{AreWritable}
use Rattle.recurrence.specs.Replies.{IsInstantLine}
use Rattle.recurrence.proofs.Joined.{IsSoFar}
use Rattle.recurrence.proofs.series_lines.put_left.Given as goal

abbrev pub invariant-loop-instant : goal.invariant-loop-instant
invariant-loop-instant g l = record {
  so_far : IsSoFar IsInstantLine (g.K.Sink.held l.initial.sink)
      (g.K.Sink.held l.sink) l.initial.batch.bytes l.batch.bytes l.series.left l.initial.series.left;
  writable : AreWritable l.series.left;
  stop : l.series.stop ≡ l.initial.series.stop;
  later : g.K.Sink.faults l.initial.sink ≤ g.K.Sink.faults l.sink;
}
