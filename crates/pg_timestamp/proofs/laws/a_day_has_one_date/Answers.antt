-- Answers to the goals of the law `a_day_has_one_date`.
use Rattle.pg_timestamp.proofs.DayFacts.{one_date}
use Rattle.pg_timestamp.proofs.laws.a_day_has_one_date.Goals as goal

pub returns : goal.returns
returns c = one_date c.years_and_weeks_follow_each_other.ensures.next
