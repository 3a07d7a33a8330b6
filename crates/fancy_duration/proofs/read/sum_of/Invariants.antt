-- The invariant and the measure of the loop of `read::sum_of`.
use Rattle.std.proofs.Common.{◌≡◌, length}
use Rattle.fancy_duration.specs.Sums.{total, long_follows}
use Rattle.fancy_duration.specs.inside.Reading.{items_of, capped, sum_with}
use Rattle.fancy_duration.proofs.read.sum_of.Given as goal

-- the items that are left complete the sum
abbrev pub invariant-loop-number : goal.invariant-loop-number
invariant-loop-number l =
    capped (sum_with l.tally.nanos l.tally.pending (long_follows (items_of l.rest)) (total (items_of l.rest)))
    ≡ capped (total (items_of l.text))

abbrev pub decreases-loop-number : goal.decreases-loop-number
decreases-loop-number l = length l.rest
