-- Answers to the goals of `cell::text_answer`.
use Rattle.std.proofs.Common.{ℕ, List, ◌++◌, Ok, sym, ap, subst, ◌∙◌}
use Rattle.forms.specs.Replies.{IsAnswer}
use Rattle.timeforms_c.specs.Columns.{IsCoded}
use Rattle.timeforms_c.proofs.Cells.{answered_text}
use Rattle.timeforms_c.proofs.cell.text_answer.Goals as goal

pub returns-clause-answer : goal.returns-clause-answer
returns-clause-answer c =
    let said = c.if-push_text_reply.ensures.reply in
    let bytes = said.2 ∙ ap (λ (l : List ℕ). l ++ said.0) c.new-out.ensures in
    subst (λ (l : List ℕ). IsCoded (IsAnswer c.args.from c.args.to) c.args.text.now (Ok l)) (sym bytes) (answered_text _ _ _ _ said.1)
