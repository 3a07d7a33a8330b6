-- Answers to the goals of `timestamp::timed_end`.
use Rattle.pg_timestamp.proofs.timestamp.timed_end.Goals as goal

pub returns-in_err-time-clause-none : goal.returns-in_err-time-clause-none
returns-in_err-time-clause-none c = rw c.from_residual.ensures (λ time bc e. c.in_err-time.ensures.none time e.0)
