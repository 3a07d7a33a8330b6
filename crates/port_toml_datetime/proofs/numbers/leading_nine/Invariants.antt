-- The invariant and the measure of the loop of `numbers::leading_nine`.
use Rattle.std.proofs.Common.{◌≡◌, ◌≤◌, ◌-◌, ◌++◌, length, take, drop}
use Rattle.scan_core.specs.Digits.{number_of}
use Rattle.scan_core.specs.Fronts.{front_digits, after_digits}
use Rattle.port_toml_datetime.proofs.numbers.leading_nine.Given as goal

abbrev pub invariant-loop-len : goal.invariant-loop-len
invariant-loop-len l = record {
  within : l.len ≤ length l.bytes;
  nine : l.len ≤ 9;
  front : front_digits l.bytes ≡ take l.len l.bytes ++ front_digits (drop l.len l.bytes);
  rest : after_digits l.bytes ≡ after_digits (drop l.len l.bytes);
  value : l.value ≡ number_of (take l.len l.bytes);
}

abbrev pub decreases-loop-len : goal.decreases-loop-len
decreases-loop-len l = length l.bytes - l.len
