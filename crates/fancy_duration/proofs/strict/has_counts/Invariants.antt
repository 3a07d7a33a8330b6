-- The invariant and the measure of the loop of `strict::has_counts`.
use Rattle.std.proofs.Common.{◌↔◌, length}
use Rattle.fancy_duration.specs.inside.Reading.{HasCounts}
use Rattle.fancy_duration.proofs.strict.has_counts.Given as goal

abbrev pub invariant-loop-rest : goal.invariant-loop-rest
invariant-loop-rest l = HasCounts l.rest ↔ HasCounts l.text

abbrev pub decreases-loop-rest : goal.decreases-loop-rest
decreases-loop-rest l = length l.rest
