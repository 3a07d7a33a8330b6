-- The invariant and the measure of the loop of `piece_lines::answer_piece`.
use Rattle.std.proofs.Common.{◌≤◌, length, vec_len, vec_capacity}
use Rattle.forms.proofs.Batches.{IsGoing}
use Rattle.forms.proofs.piece_lines.answer_piece.Given as goal

abbrev pub invariant-loop-line : goal.invariant-loop-line
invariant-loop-line g l = record {
  going : IsGoing g.A.AnswersLines.says l.most l.initial.answerer l.answerer (g.K.Sink.held l.initial.sink)
      (g.K.Sink.held l.sink) l.initial.kept.items l.piece l.kept.items l.rest (g.A.Batch.Waits.bytes l.batch);
  len : vec_len l.kept ≤ l.most;
  room : l.most ≤ vec_capacity l.kept;
  held : vec_capacity l.initial.kept ≤ vec_capacity l.kept;
  later : g.K.Sink.faults l.initial.sink ≤ g.K.Sink.faults l.sink;
}

abbrev pub decreases-loop-line : goal.decreases-loop-line
decreases-loop-line g l = length l.rest
