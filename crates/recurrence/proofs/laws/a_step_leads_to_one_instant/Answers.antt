-- Answers to the goals of the law `a_step_leads_to_one_instant`.
use Rattle.recurrence.proofs.Starts.{one_answer}
use Rattle.recurrence.proofs.laws.a_step_leads_to_one_instant.Goals as goal

pub returns : goal.returns
returns c = one_answer c.civil_dates_are_calendar_dates.ensures
