-- The invariant and the measure of the loop of `lines::count_lines`.
use Rattle.std.proofs.Common.{◌≡◌, ◌+◌, ◌≤◌, length}
use Rattle.forms.specs.Lines.{lines}
use Rattle.whole_input.proofs.lines.count_lines.Given as goal

abbrev pub invariant-loop-after : goal.invariant-loop-after
invariant-loop-after l = record {
  counted : l.count + length (lines l.rest) ≡ length (lines l.fn.text);
  bound : l.count + length l.rest ≤ length l.fn.text;
}

abbrev pub decreases-loop-after : goal.decreases-loop-after
decreases-loop-after l = length l.rest
