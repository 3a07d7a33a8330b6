-- Answers to the goals of `form::Form::by_name`.
use Rattle.std.proofs.Common.{None, sym, ◌∙◌}
use Rattle.std.proofs.lemmas.List.{append-nil}
use Rattle.forms.proofs.NamedForms.{none_is_named}
use Rattle.forms.proofs.form.Form.by_name.Goals as goal

pub returns-in_err-form : goal.returns-in_err-form
returns-in_err-form c =
    rw c.from_residual.ensures (none_is_named c.args.name.now (λ form named.
    c.in_err-form.ensures.none form None (c.as_bytes.ensures.value ∙ (named ∙ sym (append-nil _)))))
