-- Answers to the goals of `strict::sum_of_few`.
use Rattle.std.proofs.Common.{◌≡◌, ℕ, ◌∙◌, length, subst, arith, IfSome}
use Rattle.std.proofs.lemmas.Bool.Decides.{nat_tests}
use Rattle.fancy_duration.proofs.FewCounts.{steps, sums_up}
use Rattle.fancy_duration.proofs.strict.sum_of_few.Goals as goal

pub loop-rest-smaller : goal.loop-rest-smaller
loop-rest-smaller c =
    (steps c.loop-rest.rest.now c.split_few-number.result.1.now c.in_ok-part.after.now c.without_blanks-rest.result.now
    c.split_few-number.result.0 c.loop-rest.tally.nanos c.loop-rest.tally.pending c.in_ok-tally.tally.nanos c.in_ok-tally.tally.pending
    c.in_ok-part.part c.split_few-number.ensures.number c.split_few-number.ensures.rest c.if-behind-rest.false
    c.in_ok-part.ensures.found c.in_ok-part.ensures.minutes c.in_ok-part.ensures.rest c.without_blanks-rest.ensures
    c.in_ok-tally.ensures).shorter

pub loop-rest-preserved : goal.loop-rest-preserved
loop-rest-preserved c =
    let step = steps c.loop-rest.rest.now c.split_few-number.result.1.now c.in_ok-part.after.now c.without_blanks-rest.result.now
    c.split_few-number.result.0 c.loop-rest.tally.nanos c.loop-rest.tally.pending c.in_ok-tally.tally.nanos c.in_ok-tally.tally.pending
    c.in_ok-part.part c.split_few-number.ensures.number c.split_few-number.ensures.rest c.if-behind-rest.false
    c.in_ok-part.ensures.found c.in_ok-part.ensures.minutes c.in_ok-part.ensures.rest c.without_blanks-rest.ensures
    c.in_ok-tally.ensures in
    record { strict = λ h. c.loop-rest.invariant.strict (step.strict h); sum = step.sum ∙ c.loop-rest.invariant.sum }

pub returns-clause-sum : goal.returns-clause-sum
returns-clause-sum c =
    let none : length c.loop-rest.rest.now ≡ 0 = grind (arith, nat_tests) in
    subst (λ (sum : ℕ). IfSome c.sum.result (λ nanos. nanos ≡ sum))
    (sums_up c.args.text.now c.loop-rest.rest.now c.loop-rest.tally.nanos c.loop-rest.tally.pending none c.loop-rest.invariant.sum)
    c.sum.ensures
