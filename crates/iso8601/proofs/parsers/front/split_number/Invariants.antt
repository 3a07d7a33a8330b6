-- The invariant and the measure of the loop of `parsers::front::split_number`.
use Rattle.std.proofs.Common.{◌≡◌, ◌^◌, ◌<◌, length}
use Rattle.std.specs.Str.Parse.{digits_value_after}
use Rattle.scan_core.specs.Digits.{number_of}
use Rattle.scan_core.specs.Fronts.{front_digits, after_digits}
use Rattle.iso8601.proofs.parsers.front.split_number.Given as goal

-- the digits that are left complete the number
abbrev pub invariant-loop-digit : goal.invariant-loop-digit
invariant-loop-digit l = record {
  some : 0 < length (front_digits l.bytes);
  number : digits_value_after 10 l.number (front_digits l.rest) ≡ number_of (front_digits l.bytes);
  rest : after_digits l.rest ≡ after_digits l.bytes;
  fits : l.number < 2 ^ 32;
}

abbrev pub decreases-loop-digit : goal.decreases-loop-digit
decreases-loop-digit l = length l.rest
