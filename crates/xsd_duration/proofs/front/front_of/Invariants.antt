-- The invariant and the measure of the loop of `front::front_of`.
use Rattle.std.proofs.Common.{◌≡◌, ◌≤◌, ◌-◌, ◌%◌, ◌^◌, ◌++◌, length, take, drop}
use Rattle.scan_core.specs.Digits.{number_of}
use Rattle.scan_core.specs.Fronts.{front_digits, after_digits}
use Rattle.xsd_duration.proofs.front.front_of.Given as goal

abbrev pub invariant-loop-len : goal.invariant-loop-len
invariant-loop-len l = record {
  within : l.len ≤ length l.bytes;
  front : front_digits l.bytes ≡ take l.len l.bytes ++ front_digits (drop l.len l.bytes);
  rest : after_digits l.bytes ≡ after_digits (drop l.len l.bytes);
  number : l.number ≡ number_of (take l.len l.bytes) % 2 ^ 64;
}

abbrev pub decreases-loop-len : goal.decreases-loop-len
decreases-loop-len l = length l.bytes - l.len
