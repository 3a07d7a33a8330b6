-- Answers to the goals of `series::Series::new`.
use Rattle.std.proofs.Math.Facts.{to_z-of_z}
use Rattle.recurrence.proofs.Listed.{series_is}
use Rattle.recurrence.proofs.series.Series.new.Goals as goal

pub returns-clause-series : goal.returns-clause-series
returns-clause-series c = series_is c.civil_dates_are_calendar_dates.ensures c.args.start c.args.step c.civil_of.result c.args.count
    (rw (to_z-of_z c.ranges.start) at c.civil_of.ensures.some) (rw (to_z-of_z c.ranges.start) at c.civil_of.ensures.value)
