-- Answers to the goals of the law `a_step_of_months_keeps_the_day_of_the_month`.
use Rattle.recurrence.proofs.SeriesLaws.{months_alone}
use Rattle.recurrence.proofs.laws.a_step_of_months_keeps_the_day_of_the_month.Goals as goal

pub returns : goal.returns
returns c start step k instant year later_year month day nanos later_month later_day later_nanos days micros at from to =
    months_alone c.civil_dates_are_calendar_dates.ensures start step k instant year later_year month day nanos later_month later_day
    later_nanos days micros at from to
