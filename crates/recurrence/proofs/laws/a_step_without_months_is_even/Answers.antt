-- Answers to the goals of the law `a_step_without_months_is_even`.
use Rattle.recurrence.proofs.SeriesLaws.{even, without_months}
use Rattle.recurrence.proofs.laws.a_step_without_months_is_even.Goals as goal

pub returns-clause-even : goal.returns-clause-even
returns-clause-even c = even

pub returns-clause-from : goal.returns-clause-from
returns-clause-from c = without_months
