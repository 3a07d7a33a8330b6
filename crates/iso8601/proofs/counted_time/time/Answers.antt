-- Answers to the goals of `counted_time::time`.
use Rattle.iso8601.proofs.CountedFacts.{time_stuck}
use Rattle.iso8601.proofs.counted_time.time.Goals as goal

pub returns-in_err-second-clause-none : goal.returns-in_err-second-clause-none
returns-in_err-second-clause-none g c =
    rw c.from_residual-in_err-second.ensures (λ t. time_stuck _ _ _ c.in_ok-hour.hour c.in_ok-minute.minute c.in_ok-hour.ensures.read
    c.in_ok-minute.ensures.read c.in_err-second.ensures.none t)
