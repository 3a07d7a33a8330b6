-- The invariant of the loop of `breakdown::kept_nanos`.
use Rattle.std.proofs.Common.{◌≡◌, ◌+◌, ◌≤◌, drop}
use Rattle.fancy_duration.specs.Parts.{all_parts}
use Rattle.fancy_duration.specs.Breakdown.{kept_length}
use Rattle.fancy_duration.specs.inside.Writing.{kept_in}
use Rattle.fancy_duration.proofs.breakdown.kept_nanos.Given as goal

-- the parts that are left complete the sum
abbrev pub invariant-loop-part : goal.invariant-loop-part
invariant-loop-part l = record {
  value : l.sum + kept_in l.kept (drop l.part-index all_parts) l.left ≡ kept_length l.kept l.nanos;
  within : l.sum + l.left ≤ l.nanos;
}
