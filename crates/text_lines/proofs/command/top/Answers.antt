-- Answers to the goals of `command::top`.
use Rattle.std.proofs.Common.{◌≡◌, ℕ, List, drop, sym, ◌∙◌, ap, subst}
use Rattle.forms.specs.declared.form.Form.{Form}
use Rattle.text_lines.specs.declared.asked.Asked.TheVariants.{Text}
use Rattle.text_lines.specs.Ends.{TextEnded}
use Rattle.text_lines.proofs.command.top.Goals as goal

pub returns-in-Text-clause-text : goal.returns-in-Text-clause-text
returns-in-Text-clause-text g c = λ from to text ask.
    let h = c.what_is_asked.ensures.text_only from to text ask in
    let both : Text c.in-Text.from c.in-Text.to c.in-Text.start ≡ Text from to h.0 = sym c.in-Text.is ∙ h.1 in
    let from_same : c.in-Text.from ≡ from = cc in
    let to_same : c.in-Text.to ≡ to = cc in
    let start_same : c.in-Text.start ≡ h.0 = cc in
    let texts : c.behind.result.now ≡ text = c.behind.ensures ∙ (ap (λ (s : ℕ). drop s c.args.words.now) start_same ∙ sym h.2) in
    let Ended : Form → Form → List ℕ → Type 0 = λ f t l. TextEnded f t l (g.K.Sink.held c.args.sink.now)
    (g.K.Sink.held c.answer_text.new.sink) (g.K.Sink.faults c.args.sink.now)
    (g.K.Sink.faults c.answer_text.new.sink) c.answer_text.result in
    subst (λ (l : List ℕ). Ended from to l) texts (subst (λ (f : Form). Ended from f c.behind.result.now) to_same
    (subst (λ (f : Form). Ended f c.in-Text.to c.behind.result.now) from_same c.answer_text.ensures))
