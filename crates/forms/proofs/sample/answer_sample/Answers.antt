-- Answers to the goals of `sample::answer_sample`.
use Rattle.std.proofs.Common.{◌∙◌, List, ℕ, Some, refl, ap}
use Rattle.forms.specs.Memory.{SourceState, SinkState}
use Rattle.forms.proofs.SampleWords.{done_replies}
use Rattle.forms.proofs.sample.answer_sample.Goals as goal

pub returns-in-Done : goal.returns-in-Done
returns-in-Done c =
    let left = ap (λ (s : SourceState). Some s.left) c.in-Ok-new.ensures ∙ ap (λ (l : List ℕ). Some l) c.deref.ensures.value in
    let empty = ap (λ (s : SinkState). Some s.held) c.in-Ok-new-2.ensures in
    done_replies 67108864 c.args.count _ _ c.in-Ok.lines.items c.run.new.sink.held c.in-Ok.ensures c.in-Done.ensures.ended left empty refl
