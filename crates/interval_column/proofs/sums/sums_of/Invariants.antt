-- The invariant of the loop of `sums::sums_of`.
use Rattle.std.proofs.Common.{◌≡◌}
use Rattle.interval_column.proofs.Adding.{AreSummed}
use Rattle.interval_column.proofs.sums.sums_of.Given as goal

abbrev pub invariant-loop-item : goal.invariant-loop-item
invariant-loop-item g l = record {
  summed : AreSummed g.T.HasInterval.interval_of l.items l.totals.months l.totals.days l.totals.micros l.item-index;
  adds : l.totals.adds ≡ l.item-index;
}
