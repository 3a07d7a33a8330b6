-- Answers to the goals of `reply::timeforms_reply_by_name`.
use Rattle.std.proofs.Common.{refl}
use Rattle.timeforms_c.proofs.reply.timeforms_reply_by_name.Goals as goal

pub returns-in-Some-Some-clause-from : goal.returns-in-Some-Some-clause-from
returns-in-Some-Some-clause-from c none = absurd (none c.in-Some-Some.from ((c.in-Some-Some.ensures c.in-Some-Some.from).0 refl))

pub returns-in-Some-Some-clause-to : goal.returns-in-Some-Some-clause-to
returns-in-Some-Some-clause-to c none = absurd (none c.in-Some-Some.to ((c.in-Some-Some.ensures' c.in-Some-Some.to).0 refl))
