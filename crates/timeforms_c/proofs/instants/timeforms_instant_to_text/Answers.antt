-- Answers to the goals of `instants::timeforms_instant_to_text`.
use Rattle.std.proofs.Common.{refl, sym, ◌∙◌}
use Rattle.std.proofs.Math.Facts.{to_z-of_z}
use Rattle.timeforms_c.proofs.instants.timeforms_instant_to_text.Goals as goal

pub returns-then-nanoseconds-ge-NANOSECONDS_A_SECOND-clause-form : goal.returns-then-nanoseconds-ge-NANOSECONDS_A_SECOND-clause-form
returns-then-nanoseconds-ge-NANOSECONDS_A_SECOND-clause-form c none =
    absurd (none c.in-Some.form (sym (to_z-of_z c.ranges.form) ∙ (c.in-Some.ensures c.in-Some.form).0 refl))

pub returns-clause-form : goal.returns-clause-form
returns-clause-form c none = absurd (none c.in-Some.form (sym (to_z-of_z c.ranges.form) ∙ (c.in-Some.ensures c.in-Some.form).0 refl))
