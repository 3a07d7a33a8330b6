-- Answers to the goals of `counted::date_and_time`.
use Rattle.std.proofs.Common.{refl}
use Rattle.iso8601.proofs.CountedBodies.{dated_stuck}
use Rattle.iso8601.proofs.counted.date_and_time.Goals as goal

pub returns-in_err-time-clause-none : goal.returns-in_err-time-clause-none
returns-in_err-time-clause-none g c =
    rw c.from_residual-in_err-time.ensures
    (dated_stuck _ _ _ _ _ c.in_ok-year.year c.in_ok-month.month c.in_ok-day.day c.in_ok-year.ensures.read c.in_ok-month.ensures.read
    c.in_ok-day.ensures.read (c.if-not-next_if.ensures.passed refl).split c.in_err-time.ensures.none)
