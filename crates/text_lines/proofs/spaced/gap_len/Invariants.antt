-- The invariant and the measure of the loop of `spaced::gap_len`.
use Rattle.std.proofs.Common.{◌-◌, ◌≤◌, true, length, take}
use Rattle.text_lines.specs.Spaced.{AllAre}
use Rattle.text_lines.proofs.spaced.gap_len.Given as goal

abbrev pub invariant-loop-n : goal.invariant-loop-n
invariant-loop-n l = record { within : l.n ≤ length l.text; all : AllAre true (take l.n l.text) }

abbrev pub decreases-loop-n : goal.decreases-loop-n
decreases-loop-n l = length l.text - l.n
