-- The invariant and the measure of the loop of `source_lines::answer_lines`.
use Rattle.std.proofs.Common.{◌≡◌, ◌≤◌, [], ℕ, List, take, vec_len, vec_capacity}
use Rattle.forms.specs.Ends.{streams}
use Rattle.forms.specs.Outputs.{cut}
use Rattle.forms.proofs.Runs.{IsRunning}
use Rattle.forms.proofs.source_lines.answer_lines.Given as goal

abbrev pub invariant-loop-room : goal.invariant-loop-room
invariant-loop-room g l = record {
  running : (part : List ℕ) × (l.kept.items ≡ take l.most part)
      × IsRunning (cut l.most g.A.AnswersLines.says) l.initial.answerer l.answerer l.limit l.room
      (streams g.S.Source.left g.S.Source.taken g.S.Source.faults g.K.Sink.held g.K.Sink.faults l.initial.source l.initial.sink)
      (streams g.S.Source.left g.S.Source.taken g.S.Source.faults g.K.Sink.held g.K.Sink.faults l.source l.sink)
      part [];
  empty : (g.A.Batch.Waits.bytes l.batch) ≡ [];
  kept : vec_len l.kept ≤ l.most;
  held : l.most ≤ vec_capacity l.kept;
}

abbrev pub decreases-loop-room : goal.decreases-loop-room
decreases-loop-room g l = l.room
