-- The invariant and the measure of the loop of `read::next_item`.
use Rattle.std.proofs.Common.{◌≡◌, ◌≤◌, length}
use Rattle.fancy_duration.specs.inside.Reading.{items_of}
use Rattle.fancy_duration.proofs.read.next_item.Given as goal

-- what was passed over has no item
abbrev pub invariant-loop-first : goal.invariant-loop-first
invariant-loop-first l = record {
  items : items_of l.rest ≡ items_of l.text;
  shorter : length l.rest ≤ length l.text;
}

abbrev pub decreases-loop-first : goal.decreases-loop-first
decreases-loop-first l = length l.rest
