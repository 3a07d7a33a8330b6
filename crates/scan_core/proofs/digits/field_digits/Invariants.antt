-- The invariant of the loop of `digits::field_digits`.
use Rattle.std.proofs.Common.{◌≡◌, take}
use Rattle.scan_core.specs.Digits.{AreDigits, number_of}
use Rattle.scan_core.proofs.digits.field_digits.Given as goal

abbrev pub invariant-loop-byte : goal.invariant-loop-byte
invariant-loop-byte l = record {
  digits : AreDigits (take l.byte-index l.bytes);
  number : l.value ≡ number_of (take l.byte-index l.bytes);
}
