-- The invariant and the measure of the loop of `fields::field_start`.
use Rattle.std.proofs.Common.{◌≤◌, ◌-◌, length, take, drop}
use Rattle.text_lines.specs.Fields.{AreTabbed}
use Rattle.text_lines.proofs.FieldPlaces.{StillTabbed}
use Rattle.text_lines.proofs.fields.field_start.Given as goal

abbrev pub invariant-loop-left : goal.invariant-loop-left
invariant-loop-left l = record {
  within : l.at ≤ length l.line;
  most : l.left ≤ l.number;
  tabbed : AreTabbed (l.number - l.left) (take l.at l.line);
  still : StillTabbed l.number l.line l.left (drop l.at l.line);
}

abbrev pub decreases-loop-left : goal.decreases-loop-left
decreases-loop-left l = l.left
