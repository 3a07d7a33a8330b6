-- Answers to the goals of the law `a_step_of_zero_repeats`.
use Rattle.recurrence.proofs.SeriesLaws.{repeats}
use Rattle.recurrence.proofs.laws.a_step_of_zero_repeats.Goals as goal

pub returns : goal.returns
returns c = repeats c.civil_dates_are_calendar_dates.ensures
