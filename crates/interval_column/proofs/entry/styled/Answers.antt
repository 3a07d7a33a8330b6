-- Answers to the goals of `entry::styled`.
use Rattle.std.proofs.Common.{refl, sym}
use Rattle.interval_column.proofs.Labels.{no_form, no_style, none_is_no_some}
use Rattle.interval_column.proofs.entry.styled.Goals as goal

pub returns-in_err-form-clause-none : goal.returns-in_err-form-clause-none
returns-in_err-form-clause-none c =
    rw c.from_residual.ensures (no_form c.args.text.now _ _ c.first_word.ensures.word c.first_word.ensures.labelled
    (λ form named. none_is_no_some form ((c.in_err-form.ensures form).1 named)))

pub returns-in_err-style-clause-none : goal.returns-in_err-style-clause-none
returns-in_err-style-clause-none c =
    rw c.from_residual-in_err-style.ensures (no_style c.args.text.now _ _ c.in_ok-form.form c.first_word.ensures.word
    c.first_word.ensures.labelled ((c.in_ok-form.ensures c.in_ok-form.form).0 refl) (sym c.in_err-style.ensures))
