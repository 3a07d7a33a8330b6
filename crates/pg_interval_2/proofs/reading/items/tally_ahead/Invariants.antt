-- The invariant and the measure of the loop of `reading::items::tally_ahead`.
use Rattle.std.proofs.Common.{◌≡◌, ◌+◌, ◌≤◌, length}
use Rattle.scan_core.specs.Scanning.{Spends, ahead}
use Rattle.pg_interval_2.specs.inside.NameSets.{names_in}
use Rattle.pg_interval_2.proofs.ItemSteps.{ItemsTaken}
use Rattle.pg_interval_2.proofs.reading.items.tally_ahead.Given as goal

abbrev pub invariant-loop-names : goal.invariant-loop-names
invariant-loop-names g l = record {
  room : l.counted.tally.totals.adds + length (ahead l.scan) ≤ length (ahead l.fn.scan);
  taken : ItemsTaken (names_in l.names) l.turned (ahead l.fn.scan) (ahead l.scan) l.counted;
  same : l.scan.text ≡ l.fn.scan.text;
  spends : Spends l.fn.steps (ahead l.fn.scan) l.steps (ahead l.scan);
}

abbrev pub decreases-loop-names : goal.decreases-loop-names
decreases-loop-names g l = length (ahead l.scan)
