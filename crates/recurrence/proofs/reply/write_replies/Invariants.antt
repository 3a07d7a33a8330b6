-- The invariant and the measure of the loop of `reply::write_replies`.
use Rattle.std.proofs.Common.{◌≤◌, [], length}
use Rattle.forms.specs.Lines.{lines}
use Rattle.recurrence.specs.Replies.{IsReply}
use Rattle.recurrence.proofs.Joined.{IsSoFar}
use Rattle.recurrence.proofs.reply.write_replies.Given as goal

abbrev pub invariant-loop-line : goal.invariant-loop-line
invariant-loop-line g l = record {
  so_far : IsSoFar IsReply (g.K.Sink.held l.initial.sink) (g.K.Sink.held l.sink) [] l.batch.bytes (lines l.rest) (lines l.text);
  later : g.K.Sink.faults l.initial.sink ≤ g.K.Sink.faults l.sink;
}

abbrev pub decreases-loop-line : goal.decreases-loop-line
decreases-loop-line g l = length l.rest
