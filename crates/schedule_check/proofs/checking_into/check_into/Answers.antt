-- Answers to the goals of `checking_into::check_into`.
use Rattle.std.proofs.Common.{take}
use Rattle.schedule_check.specs.Checks.{answer_at}
use Rattle.schedule_check.proofs.checking_into.check_into.Goals as goal

pub returns-clause-exact : goal.returns-clause-exact
returns-clause-exact c = λ answer fits h.
    c.one_answer.ensures c.args.bytes.now
    (answer_at (take c.answer_into.result.0 c.answer_into.new.slots) c.answer_into.result.1) answer (c.answer_into.ensures.checks fits) h
