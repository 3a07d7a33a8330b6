-- Answers to the goals of the law `a_start_has_one_series`.
use Rattle.recurrence.proofs.Listed.{one_series}
use Rattle.recurrence.proofs.laws.a_start_has_one_series.Goals as goal

pub returns : goal.returns
returns c = one_series c.civil_dates_are_calendar_dates.ensures
