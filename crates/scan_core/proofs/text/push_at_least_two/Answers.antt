-- Answers to the goals of `text::push_at_least_two`.
use Rattle.std.proofs.Common.{ℕ, List, ◌≤◌, ◌++◌, length, decimal, ap, sym, arith, ◌∙◌}
use Rattle.scan_core.proofs.PaddedFacts.{padded_full, two_or_more}
use Rattle.scan_core.proofs.text.push_at_least_two.Goals as goal

pub returns-else-value-lt100-clause-bytes : goal.returns-else-value-lt100-clause-bytes
returns-else-value-lt100-clause-bytes g c =
    let n = c.args.value in
    let two : 2 ≤ length (decimal n) = two_or_more n (omega (arith, c.if-value-lt100.false)) c.ranges.value.fits in
    c.push_num.ensures.bytes ∙ ap (λ (l : List ℕ). c.args.out.now.bytes ++ l) (sym (padded_full 2 n two))

pub returns-else-value-lt100-clause-len : goal.returns-else-value-lt100-clause-len
returns-else-value-lt100-clause-len g c =
    let n = c.args.value in
    let two : 2 ≤ length (decimal n) = two_or_more n (omega (arith, c.if-value-lt100.false)) c.ranges.value.fits in
    omega (arith, two, c.push_num.ensures.len)
