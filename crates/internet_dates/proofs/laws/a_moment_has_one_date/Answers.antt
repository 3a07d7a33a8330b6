-- Answers to the goals of the law `a_moment_has_one_date`.
use Rattle.internet_dates.proofs.DayFacts.{one_date_time}
use Rattle.internet_dates.proofs.laws.a_moment_has_one_date.Goals as goal

pub returns : goal.returns
returns c = one_date_time c.civil_dates_are_calendar_dates.ensures.day
