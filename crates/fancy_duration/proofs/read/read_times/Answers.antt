-- Answers to the goals of `read::read_times`.
use Rattle.std.proofs.Common.{◌≤◌, ◌^◌, ◌/◌, ◌∙◌, refl, ap, Ok, arith}
use Rattle.fancy_duration.proofs.Totals.{denotes, is_too_big, not_too_big, denotes_unique, not_beyond}
use Rattle.fancy_duration.proofs.read.read_times.Goals as goal

pub returns-in-Ok-clause-ok : goal.returns-in-Ok-clause-ok
returns-in-Ok-clause-ok c =
    denotes _ _ _ _ _ refl c.sum_of.ensures (c.in-Ok.ensures.1 ∙ c.times_of-seconds.ensures.seconds)
    c.times_of-seconds.ensures.beyond (omega (arith, c.in-Ok.ensures.0, c.in-Ok.ensures.1))

pub returns-in-Ok-clause-all : goal.returns-in-Ok-clause-all
returns-in-Ok-clause-all c times h =
    ap Ok (denotes_unique _ _ _
    (denotes _ _ _ _ _ refl c.sum_of.ensures (c.in-Ok.ensures.1 ∙ c.times_of-seconds.ensures.seconds)
    c.times_of-seconds.ensures.beyond (omega (arith, c.in-Ok.ensures.0, c.in-Ok.ensures.1))) h)

pub returns-in-Ok-clause-big : goal.returns-in-Ok-clause-big
returns-in-Ok-clause-big c = (
  λ e. absurd (cc),
  λ big. absurd (not_too_big _ _ _ refl c.sum_of.ensures
      (omega (arith, c.in-Ok.ensures.0, c.times_of-seconds.ensures.seconds)) big),
)

pub returns-in-Err-clause-big : goal.returns-in-Err-clause-big
returns-in-Err-clause-big c =
    let beyond : 2 ^ 64 ≤ c.sum_of.result / 1_000_000_000 = omega (arith, c.in-Err.ensures, c.times_of-seconds.ensures.seconds) in
    (λ _. is_too_big _ _ _ refl c.sum_of.ensures beyond, λ _. refl)

pub returns-in-Err-clause-all : goal.returns-in-Err-clause-all
returns-in-Err-clause-all c times h =
    let beyond : 2 ^ 64 ≤ c.sum_of.result / 1_000_000_000 = omega (arith, c.in-Err.ensures, c.times_of-seconds.ensures.seconds) in
    absurd (not_beyond _ _ _ times refl c.sum_of.ensures beyond h)
