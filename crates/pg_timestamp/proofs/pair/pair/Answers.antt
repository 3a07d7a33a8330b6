-- Answers to the goals of `pair::pair`.
use Rattle.std.proofs.Common.{List, ℕ, subst}
use Rattle.pg_timestamp.specs.Pieces.{IsMarkedPair}
use Rattle.pg_timestamp.proofs.PieceFacts.{first_three}
use Rattle.pg_timestamp.proofs.pair.pair.Goals as goal

pub returns-in-None-clause-none : goal.returns-in-None-clause-none
returns-in-None-clause-none c = λ n m.
    let P : List ℕ → Type 0 = λ l. IsMarkedPair c.args.mark c.args.lo c.args.hi l n in
    c.in-None.ensures.none n (subst P (first_three c.args.text.now c.in-len3-up.len_at_least) m)
