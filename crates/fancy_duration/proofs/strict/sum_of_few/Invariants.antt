-- The invariant and the measure of the loop of `strict::sum_of_few`.
use Rattle.std.proofs.Common.{◌≡◌, length}
use Rattle.fancy_duration.specs.Sums.{total, long_follows}
use Rattle.fancy_duration.specs.inside.Reading.{HasCounts, items_of, sum_with}
use Rattle.fancy_duration.proofs.strict.sum_of_few.Given as goal

-- the counts that are left complete the text and the sum
abbrev pub invariant-loop-rest : goal.invariant-loop-rest
invariant-loop-rest l = record {
  strict : HasCounts l.rest → HasCounts l.text;
  sum : sum_with l.tally.nanos l.tally.pending (long_follows (items_of l.rest)) (total (items_of l.rest)) ≡ total (items_of l.text);
}

abbrev pub decreases-loop-rest : goal.decreases-loop-rest
decreases-loop-rest l = length l.rest
