-- The invariant and the measure of the loop of `reading::iso::take_pairs`.
use Rattle.std.proofs.Common.{◌≡◌, ◌+◌, ◌≤◌, length}
use Rattle.scan_core.specs.Scanning.{Spends, ahead}
use Rattle.pg_interval_2.specs.inside.IsoTally.{TakesPairs}
use Rattle.pg_interval_2.proofs.reading.iso.take_pairs.Given as goal

abbrev pub invariant-loop-scan : goal.invariant-loop-scan
invariant-loop-scan g l = record {
  room : l.tally.totals.adds + length (ahead l.scan) ≤ l.initial.tally.totals.adds + length (ahead l.initial.scan);
  taken : TakesPairs l.in_time (ahead l.initial.scan) (ahead l.scan) l.initial.tally l.tally l.initial.order l.order;
  same : l.scan.text ≡ l.initial.scan.text;
  spends : Spends l.initial.steps (ahead l.initial.scan) l.steps (ahead l.scan);
}

abbrev pub decreases-loop-scan : goal.decreases-loop-scan
decreases-loop-scan g l = length (ahead l.scan)
