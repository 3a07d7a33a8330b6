-- Answers to the goals of `column::timeforms_convert_column`.
use Rattle.std.proofs.Common.{refl, sym, ◌∙◌}
use Rattle.std.proofs.Math.Facts.{to_z-of_z}
use Rattle.timeforms_c.proofs.column.timeforms_convert_column.Goals as goal

pub returns-then-is_empty-clause-from : goal.returns-then-is_empty-clause-from
returns-then-is_empty-clause-from c none = absurd (none c.in-Some-Some.from
    (sym (to_z-of_z c.ranges.from) ∙ (c.in-Some-Some.ensures c.in-Some-Some.from).0 refl))

pub returns-then-is_empty-clause-to : goal.returns-then-is_empty-clause-to
returns-then-is_empty-clause-to c none = absurd (none c.in-Some-Some.to
    (sym (to_z-of_z c.ranges.to) ∙ (c.in-Some-Some.ensures' c.in-Some-Some.to).0 refl))

pub returns-else-is_empty-clause-from : goal.returns-else-is_empty-clause-from
returns-else-is_empty-clause-from c none = absurd (none c.in-Some-Some.from
    (sym (to_z-of_z c.ranges.from) ∙ (c.in-Some-Some.ensures c.in-Some-Some.from).0 refl))

pub returns-else-is_empty-clause-to : goal.returns-else-is_empty-clause-to
returns-else-is_empty-clause-to c none = absurd (none c.in-Some-Some.to
    (sym (to_z-of_z c.ranges.to) ∙ (c.in-Some-Some.ensures' c.in-Some-Some.to).0 refl))
