-- The invariant of the loop of `breakdown::left_after`.
use Rattle.std.proofs.Common.{◌≡◌, ◌≤◌, drop}
use Rattle.fancy_duration.specs.inside.Writing.{left_after}
use Rattle.fancy_duration.proofs.breakdown.left_after.Given as goal

abbrev pub invariant-loop-part : goal.invariant-loop-part
invariant-loop-part l = record {
  value : left_after (drop l.part-index l.parts) l.left ≡ left_after l.parts l.nanos;
  within : l.left ≤ l.nanos;
}
