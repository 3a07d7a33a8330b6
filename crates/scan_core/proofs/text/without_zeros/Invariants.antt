-- The invariant and the measure of the loop of `text::without_zeros`.
use Rattle.std.proofs.Common.{◌≡◌, ◌<◌, ◌≤◌, decimal, length, max}
use Rattle.scan_core.specs.Padded.{padded_digits, trimmed_digits}
use Rattle.scan_core.proofs.text.without_zeros.Given as goal

abbrev pub invariant-loop-left : goal.invariant-loop-left
invariant-loop-left l = record {
  some : 0 < l.left;
  width : l.places ≤ l.width;
  trimmed : trimmed_digits (padded_digits l.width l.value) ≡ trimmed_digits (padded_digits l.places l.left);
  len : max l.places (length (decimal l.left)) ≤ max l.width (length (decimal l.value));
}

abbrev pub decreases-loop-left : goal.decreases-loop-left
decreases-loop-left l = l.left
