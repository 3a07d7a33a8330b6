-- The invariant of the loop of `digits::few_digits`.
use Rattle.std.proofs.Common.{◌≡◌, take}
use Rattle.scan_core.specs.Digits.{number_of}
use Rattle.scan_core.proofs.digits.few_digits.Given as goal

abbrev pub invariant-loop-digit : goal.invariant-loop-digit
invariant-loop-digit l = record { number : l.value ≡ number_of (take l.digit-index l.digits) }
