-- The invariant and the measure of the loop of `looked_digits::looked_cut`.
use Rattle.std.proofs.Common.{◌≡◌, ◌+◌, ◌-◌, ◌*◌, ◌/◌, ◌^◌, ◌≤◌, length}
use Rattle.scan_core.specs.Digits.{number_of}
use Rattle.scan_core.specs.Scanning.{between}
use Rattle.scan_core.proofs.looked_digits.looked_cut.Given as goal

-- the carry is the cut fraction of the digits from the place on
abbrev pub invariant-loop-at : goal.invariant-loop-at
invariant-loop-at g l = record {
  order : l.start ≤ l.at;
  within : l.at ≤ l.end;
  carry : l.carry ≡ number_of (between l.at l.end l.text) * l.scale / 10 ^ length (between l.at l.end l.text);
  ticks : l.steps ≡ l.initial.steps + (l.end - l.at);
}

abbrev pub decreases-loop-at : goal.decreases-loop-at
decreases-loop-at g l = l.at - l.start
