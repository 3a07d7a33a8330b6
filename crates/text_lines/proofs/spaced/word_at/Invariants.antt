-- The invariant and the measure of the loop of `spaced::word_at`.
use Rattle.std.proofs.Common.{◌≡◌, ◌≤◌, length, drop}
use Rattle.text_lines.proofs.SpacedPlaces.{Leads, Comes}
use Rattle.text_lines.proofs.spaced.word_at.Given as goal

abbrev pub invariant-loop-gap : goal.invariant-loop-gap
invariant-loop-gap l = record {
  within : l.at ≤ length l.line;
  rest : l.rest ≡ drop l.at l.line;
  leads : Leads l.number l.line l.at l.left l.rest;
  comes : Comes l.number l.line l.left l.rest;
}

abbrev pub decreases-loop-gap : goal.decreases-loop-gap
decreases-loop-gap l = l.left
