-- Answers to the goals of `utc_date_time::civil_at`.
use Rattle.std.proofs.Common.{refl, arith}
use Rattle.std.proofs.lemmas.Int.{ints}
use Rattle.nt_time.proofs.utc_date_time.civil_at.Goals as goal

pub returns-in-Ok-clause-some : goal.returns-in-Ok-clause-some
returns-in-Ok-clause-some c =
    let sum = rw c.to_plain.ensures at (c.in-Ok.ensures.succeeds.0 refl) in
    (λ _. (omega (arith, ints, sum), omega (arith, ints, sum)), λ _. refl)
