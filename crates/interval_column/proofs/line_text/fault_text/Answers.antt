-- Answers to the goals of `line_text::fault_text`.
use Rattle.std.proofs.Common.{◌++◌, List, ℕ, ◌∙◌, ap}
use Rattle.interval_column.proofs.Texts.{fault_pushed}
use Rattle.interval_column.proofs.line_text.fault_text.Goals as goal

pub returns : goal.returns
returns c = fault_pushed c.args.line c.args.fault _ _ _ _ _ c.new-out.ensures c.push_count.ensures.bytes c.push_text.ensures.bytes
    (c.push_text-2.ensures.bytes ∙ ap (λ (l : List ℕ). c.push_text.new.out.bytes ++ l) c.name.ensures.name) c.push_text-3.ensures.bytes
