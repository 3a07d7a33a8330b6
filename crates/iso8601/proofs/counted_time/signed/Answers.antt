-- Answers to the goals of `counted_time::signed`.
use Rattle.iso8601.proofs.CountedFacts.{signed_stuck}
use Rattle.iso8601.proofs.counted_time.signed.Goals as goal

pub returns-in_err-minutes-clause-none : goal.returns-in_err-minutes-clause-none
returns-in_err-minutes-clause-none g c =
    rw c.from_residual-in_err-minutes.ensures (λ bytes some. signed_stuck c.args.negative bytes _ _ c.in_ok-hours.hours
    c.in_ok-hours.ensures.read c.in_err-minutes.ensures.none)
