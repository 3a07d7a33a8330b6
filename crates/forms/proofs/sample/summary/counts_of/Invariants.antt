-- The invariant and the measure of the loop of `sample::summary::counts_of`.
use Rattle.std.proofs.Common.{◌≡◌, ◌+◌, ◌≤◌, length}
use Rattle.forms.specs.Lines.{whole_lines}
use Rattle.forms.specs.Sample.{answers, refusals}
use Rattle.forms.proofs.sample.summary.counts_of.Given as goal

abbrev pub invariant-loop-reply : goal.invariant-loop-reply
invariant-loop-reply l = record {
  ok : answers (whole_lines l.replies) ≡ l.counts.ok + answers (whole_lines l.rest);
  refused : refusals (whole_lines l.replies) ≡ l.counts.refused + refusals (whole_lines l.rest);
  room : (l.counts.ok + l.counts.refused) + length l.rest ≤ length l.replies;
}

abbrev pub decreases-loop-reply : goal.decreases-loop-reply
decreases-loop-reply l = length l.rest
