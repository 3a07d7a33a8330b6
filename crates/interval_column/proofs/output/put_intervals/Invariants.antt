-- The invariant of the loop of `output::put_intervals`.
use Rattle.std.proofs.Common.{◌≤◌, []}
use Rattle.interval_column.specs.Output.{interval_line}
use Rattle.interval_column.specs.declared.ranked.Ranked.{Ranked}
use Rattle.interval_column.proofs.Putting.{ArePut}
use Rattle.interval_column.proofs.output.put_intervals.Given as goal

abbrev pub invariant-loop-ranked : goal.invariant-loop-ranked
invariant-loop-ranked g l = record {
  put : ArePut (λ (r : Ranked). interval_line l.style [] r.interval) l.ranks (g.K.Sink.held l.initial.sink)
      (g.K.Sink.held l.sink) l.initial.batch.bytes l.batch.bytes l.ranked-index;
  later : g.K.Sink.faults l.initial.sink ≤ g.K.Sink.faults l.sink;
}
