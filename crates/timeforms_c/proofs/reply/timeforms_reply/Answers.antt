-- Answers to the goals of `reply::timeforms_reply`.
use Rattle.std.proofs.Common.{refl, sym, ◌∙◌}
use Rattle.std.proofs.Math.Facts.{to_z-of_z}
use Rattle.timeforms_c.proofs.reply.timeforms_reply.Goals as goal

pub returns-in-Some-Some-clause-from : goal.returns-in-Some-Some-clause-from
returns-in-Some-Some-clause-from c none = absurd (none c.in-Some-Some.from
    (sym (to_z-of_z c.ranges.from) ∙ (c.in-Some-Some.ensures c.in-Some-Some.from).0 refl))

pub returns-in-Some-Some-clause-to : goal.returns-in-Some-Some-clause-to
returns-in-Some-Some-clause-to c none = absurd (none c.in-Some-Some.to
    (sym (to_z-of_z c.ranges.to) ∙ (c.in-Some-Some.ensures' c.in-Some-Some.to).0 refl))
