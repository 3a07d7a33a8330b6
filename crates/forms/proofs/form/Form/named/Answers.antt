-- Answers to the goals of `form::Form::named`.
use Rattle.forms.proofs.FirstLetters.{if_none, none_by_p, none_by_i, none_by_another}
use Rattle.forms.proofs.form.Form.named.Goals as goal
use Rattle.std.proofs.Common.{◌≡◌, Bool, true, false, IsTrue, sym, ◌∙◌}

isnt : (b : Bool) → b ≡ false → IsTrue b → ⊥
isnt b h k = absurd (let e : true ≡ false = sym k ∙ h in cc)

pub returns-then-begins-clause-none : goal.returns-then-begins-clause-none
returns-then-begins-clause-none c = if_none c.named_by_p.result
    (none_by_p c.args.text.now (c.begins.ensures.0 c.if-begins.true)) c.named_by_p.ensures.none

pub returns-then-begins-2-clause-none : goal.returns-then-begins-2-clause-none
returns-then-begins-2-clause-none c = if_none c.named_by_i.result
    (none_by_i c.args.text.now (c.begins-2.ensures.0 c.if-begins-2.true)) c.named_by_i.ensures.none

pub returns-clause-none : goal.returns-clause-none
returns-clause-none c =
    if_none c.named_by_another.result
    (none_by_another c.args.text.now (λ h. isnt c.begins.result c.if-begins.false (c.begins.ensures.1 h))
    (λ h. isnt c.begins-2.result c.if-begins-2.false (c.begins-2.ensures.1 h)))
    c.named_by_another.ensures.none
