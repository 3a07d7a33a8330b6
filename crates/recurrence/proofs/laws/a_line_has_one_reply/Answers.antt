-- Answers to the goals of the law `a_line_has_one_reply`.
use Rattle.recurrence.proofs.OneReply.{one_reply}
use Rattle.recurrence.proofs.laws.a_line_has_one_reply.Goals as goal

pub returns-clause-some : goal.returns-clause-some
returns-clause-some c = (c.answered.ensures.0, c.answer_to.ensures.reply c.answered.ensures.0 c.answered.ensures.1)

pub returns-clause-alone : goal.returns-clause-alone
returns-clause-alone c = one_reply c.parts_are_one.ensures c.args.line.now
