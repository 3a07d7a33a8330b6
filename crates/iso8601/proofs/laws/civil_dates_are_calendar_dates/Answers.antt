-- Answers to the goals of the law `civil_dates_are_calendar_dates`.
use Rattle.std.proofs.Common.{refl, sym}
use Rattle.iso8601.proofs.CivilDays.{ymd_day}
use Rattle.iso8601.proofs.laws.civil_dates_are_calendar_dates.Goals as goal

pub returns-clause-exists : goal.returns-clause-exists
returns-clause-exists c = λ d. (d.month_in.0, d.month_in.1, d.day_in.0, d.day_in.1)

pub returns-clause-day : goal.returns-clause-day
returns-clause-day c = λ d. sym (ymd_day d d.year d.month d.day (refl, refl, refl))
