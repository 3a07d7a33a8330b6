-- Answers to the goals of the law `years_and_weeks_follow_each_other`.
use Rattle.iso8601.proofs.CivilDays.{civil_is, is_civil}
use Rattle.iso8601.proofs.Years.{new_year-next, week_one_near, week_one_monday, first_day}
use Rattle.iso8601.proofs.laws.years_and_weeks_follow_each_other.Goals as goal

pub returns : goal.returns
returns c = record {
  epoch = first_day;
  next = new_year-next;
  monday = week_one_monday;
  near = week_one_near;
  civil = λ day. (is_civil day, civil_is day);
}
