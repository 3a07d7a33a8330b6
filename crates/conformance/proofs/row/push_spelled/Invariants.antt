-- The invariant and the measure of the loop of `row::push_spelled`.
use Rattle.std.proofs.Common.{length}
use Rattle.conformance.proofs.row.push_spelled.Given as goal

abbrev pub invariant-loop-byte : goal.invariant-loop-byte
invariant-loop-byte l = Unit {0}

abbrev pub decreases-loop-byte : goal.decreases-loop-byte
decreases-loop-byte l = length l.rest
