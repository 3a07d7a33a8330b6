-- The invariant and the measure of the loop of the law `lines_have_one_output`.
use Rattle.std.proofs.Common.{List, ℕ, length}
use Rattle.forms.specs.Lines.{lines}
use Rattle.recurrence.specs.Replies.{AreReplies}
use Rattle.recurrence.proofs.laws.lines_have_one_output.Given as goal

abbrev pub invariant-loop-line : goal.invariant-loop-line
invariant-loop-line l = record {
  so_far : (rest : List ℕ) → AreReplies (lines l.rest) rest → (out : List ℕ) × AreReplies (lines l.text) out;
}

abbrev pub decreases-loop-line : goal.decreases-loop-line
decreases-loop-line l = length l.rest
