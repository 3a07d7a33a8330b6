-- Answers to the goals of the law `one_reply`.
use Rattle.forms.proofs.OneReply.{one_answer, one_reply}
use Rattle.forms.proofs.laws.one_reply.Goals as goal

pub returns-clause-alone : goal.returns-clause-alone
returns-clause-alone c = one_reply (one_answer c.all_lawful.ensures
    (λ from to text answer. (c.answers_are_readings_written.ensures from to text answer).0)) c.args.line.now
