-- Answers to the goals of `date::civil_of`.
use Rattle.std.proofs.Common.{arith, refl}
use Rattle.std.proofs.lemmas.Int.{ints}
use Rattle.dos_date.proofs.DateWordLemmas.{same_day}
use Rattle.dos_date.proofs.date.civil_of.Goals as goal

pub returns-in-Ok-clause-value : goal.returns-in-Ok-clause-value
returns-in-Ok-clause-value c =
    let ymd = c.in-Ok.ensures.value in
    (c.fields-years.result.0, omega (arith, ints, ymd), omega arith, omega (arith, ints, ymd))

pub returns-in-Ok-clause-some : goal.returns-in-Ok-clause-some
returns-in-Ok-clause-some c = (
  λ _. same_day _ _ _ _ _ _ (omega (arith, ints)) (omega (arith, ints)) (omega (arith, ints)) (c.in-Ok.ensures.succeeds.0 refl),
  λ _. refl,
)

pub returns-in-Err-clause-some : goal.returns-in-Err-clause-some
returns-in-Err-clause-some c = (
  λ e. cc,
  λ real. c.in-Err.ensures.succeeds.1 (same_day _ _ _ _ _ _ (omega (arith, ints)) (omega (arith, ints))
      (omega (arith, ints)) real),
)
