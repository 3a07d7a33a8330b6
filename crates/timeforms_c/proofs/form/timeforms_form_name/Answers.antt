-- Answers to the goals of `form::timeforms_form_name`.
use Rattle.std.proofs.Common.{refl, sym, ◌∙◌}
use Rattle.std.proofs.Math.Facts.{to_z-of_z}
use Rattle.timeforms_c.proofs.form.timeforms_form_name.Goals as goal

pub returns-in-Some-clause-none : goal.returns-in-Some-clause-none
returns-in-Some-clause-none c none = absurd (none c.in-Some.form
    (sym (to_z-of_z c.ranges.form) ∙ (c.in-Some.ensures c.in-Some.form).0 refl))
