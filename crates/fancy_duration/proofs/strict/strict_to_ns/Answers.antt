-- Answers to the goals of `strict::strict_to_ns`.
use Rattle.std.proofs.Common.{◌<◌, ◌^◌, arith}
use Rattle.fancy_duration.proofs.FewCounts.{few_denoted, few_not_big}
use Rattle.fancy_duration.proofs.strict.strict_to_ns.Goals as goal

pub returns-in-Some-clause-ok : goal.returns-in-Some-clause-ok
returns-in-Some-clause-ok c =
    let few : c.in-Some.nanos < 2 ^ 64 = omega arith in
    (c.in-Some.ensures.strict, few_denoted c.args.text.now c.in-Some.nanos few c.in-Some.ensures.sum)

pub returns-in-Some-clause-too_big : goal.returns-in-Some-clause-too_big
returns-in-Some-clause-too_big c =
    let few : c.in-Some.nanos < 2 ^ 64 = omega arith in
    (λ e. absurd (cc), λ h. absurd (few_not_big c.args.text.now c.in-Some.nanos few c.in-Some.ensures.sum h.1))
