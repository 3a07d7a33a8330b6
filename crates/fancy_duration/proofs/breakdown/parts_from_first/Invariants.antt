-- The invariant and the measure of the loop of `breakdown::parts_from_first`.
use Rattle.std.proofs.Common.{◌≡◌, length}
use Rattle.fancy_duration.specs.Parts.{all_parts}
use Rattle.fancy_duration.specs.Breakdown.{counts_of, from_first}
use Rattle.fancy_duration.proofs.breakdown.parts_from_first.Given as goal

abbrev pub invariant-loop-first : goal.invariant-loop-first
invariant-loop-first l = from_first (counts_of l.parts l.nanos) ≡ from_first (counts_of all_parts l.nanos)

abbrev pub decreases-loop-first : goal.decreases-loop-first
decreases-loop-first l = length l.parts
