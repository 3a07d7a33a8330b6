-- Answers to the goals of `instant::at`.
use Rattle.recurrence.proofs.Starts.{at_exact}
use Rattle.recurrence.proofs.instant.at.Goals as goal
use Rattle.std.proofs.Math.Facts.{to_z-of_z}

pub returns : goal.returns
returns c answer =
    let e = at_exact c.civil_dates_are_calendar_dates.ensures c.args.start c.args.step c.args.k c.civil_of.result
    (rw (to_z-of_z c.ranges.start) at c.civil_of.ensures.some) (rw (to_z-of_z c.ranges.start) at c.civil_of.ensures.value) answer in
    rw c.at_start.ensures e
