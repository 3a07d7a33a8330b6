-- The invariant of the loop of `text::push_filled`.
use Rattle.std.proofs.Common.{◌≡◌, ◌+◌, ◌-◌, ◌≤◌, ◌++◌, length, max, replicate}
use Rattle.arrayvec.specs.ArrayString.{array_string_len}
use Rattle.scan_core.proofs.text.push_filled.Given as goal

abbrev pub invariant-loop : goal.invariant-loop
invariant-loop g l = record {
  within : l.counter ≤ max l.width (length l.digits);
  zeros : l.out.bytes ≡ l.fn.out.bytes ++ replicate (l.counter - length l.digits) 48;
  len : array_string_len l.out ≡ array_string_len l.fn.out + (l.counter - length l.digits);
}
