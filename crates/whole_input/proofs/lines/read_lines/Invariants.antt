-- The invariant and the measure of the loop of `lines::read_lines`.
use Rattle.std.proofs.Common.{◌+◌, ◌≤◌, length, vec_len, vec_capacity}
use Rattle.forms.specs.Lines.{lines}
use Rattle.whole_input.proofs.Numbering.{AreSoFar}
use Rattle.whole_input.proofs.lines.read_lines.Given as goal

abbrev pub invariant-loop-line : goal.invariant-loop-line
invariant-loop-line g l = record {
  far : AreSoFar (g.R.ReadLine.is_read l.reader) l.fn.text l.rest l.number l.values.items;
  room : vec_len l.values + length (lines l.rest) ≤ vec_capacity l.values;
  count : l.number + length l.rest ≤ length l.fn.text + 1;
}

abbrev pub decreases-loop-line : goal.decreases-loop-line
decreases-loop-line g l = length l.rest
