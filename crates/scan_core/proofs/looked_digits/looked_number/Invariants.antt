-- The invariant of the loop of `looked_digits::looked_number`.
use Rattle.std.proofs.Common.{◌≡◌, ◌+◌, ◌-◌, ◌^◌}
use Rattle.scan_core.specs.Digits.{number_of}
use Rattle.scan_core.specs.Runs.{Knows}
use Rattle.scan_core.specs.Scanning.{between}
use Rattle.scan_core.proofs.looked_digits.looked_number.Given as goal

abbrev pub invariant-loop-at : goal.invariant-loop-at
invariant-loop-at g l = record {
  value : Knows (10 ^ 18) l.value (number_of (between l.start l.at l.text));
  ticks : l.steps ≡ l.initial.steps + (l.at - l.start);
}
