-- The invariant and the measure of the loop of `read::split_few`.
use Rattle.std.proofs.Common.{◌≡◌, ◌≤◌, length}
use Rattle.std.specs.Char.{is_ascii_digit as is_digit}
use Rattle.std.specs.Str.Parse.{digits_value_after}
use Rattle.scan_core.specs.Digits.{number_of}
use Rattle.scan_core.specs.Fronts.{leading, behind}
use Rattle.fancy_duration.proofs.read.split_few.Given as goal

-- the digits that are left complete the number
abbrev pub invariant-loop-first : goal.invariant-loop-first
invariant-loop-first l = record {
  number : digits_value_after 10 l.number (leading is_digit l.rest) ≡ number_of (leading is_digit l.text);
  rest : behind is_digit l.rest ≡ behind is_digit l.text;
  within : l.number ≤ 9_999_999_999;
}

abbrev pub decreases-loop-first : goal.decreases-loop-first
decreases-loop-first l = length l.rest
