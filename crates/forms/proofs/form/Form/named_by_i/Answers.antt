-- Answers to the goals of `form::Form::named_by_i`.
use Rattle.forms.proofs.form.Form.named_by_i.Goals as goal

pub returns-clause-none : goal.returns-clause-none
returns-clause-none c = (
  c.in_default.ensures.none,
  (
    c.in_default-after_name.ensures.none,
    (c.in_default-after_name-2.ensures.none, (c.in_default-after_name-3.ensures.none, tt)),
  ),
)
