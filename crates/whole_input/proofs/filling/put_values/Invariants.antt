-- The invariant and the measure of the loop of `filling::put_values`.
use Rattle.std.proofs.Common.{◌≡◌, ◌+◌, ◌≤◌, length, take, drop}
use Rattle.forms.specs.Lines.{lines}
use Rattle.whole_input.proofs.Numbering.{AreSoFar}
use Rattle.whole_input.proofs.filling.put_values.Given as goal

abbrev pub invariant-loop-line : goal.invariant-loop-line
invariant-loop-line g l = record {
  far : AreSoFar (g.R.ReadLine.is_read l.reader) l.fn.text l.rest (l.done + 1) (take l.done l.values);
  counted : l.done + length (lines l.rest) ≡ length (lines l.fn.text);
  bound : l.done + length l.rest ≤ length l.fn.text;
  len : length l.values ≡ length l.initial.values;
  behind : drop l.done l.values ≡ drop l.done l.initial.values;
}

abbrev pub decreases-loop-line : goal.decreases-loop-line
decreases-loop-line g l = length l.rest
