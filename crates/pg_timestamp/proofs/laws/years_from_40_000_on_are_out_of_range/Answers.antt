-- Answers to the goals of the law `years_from_40_000_on_are_out_of_range`.
use Rattle.pg_timestamp.proofs.DayFacts.{far_years}
use Rattle.pg_timestamp.proofs.laws.years_from_40_000_on_are_out_of_range.Goals as goal

pub returns : goal.returns
returns c = far_years c.years_and_weeks_follow_each_other.ensures.next
