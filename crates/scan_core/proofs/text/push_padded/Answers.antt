-- Answers to the goals of `text::push_padded`.
use Rattle.std.proofs.Common.{ℕ, List, ◌≤◌, ◌++◌, length, decimal, ap, sym, arith, ◌∙◌}
use Rattle.std.proofs.lemmas.Fmt.{decimal_nonempty}
use Rattle.scan_core.proofs.PaddedFacts.{padded_full}
use Rattle.scan_core.proofs.text.push_padded.Goals as goal

pub returns-then-width-lt2-clause-bytes : goal.returns-then-width-lt2-clause-bytes
returns-then-width-lt2-clause-bytes g c =
    let n = c.args.value in
    let some = decimal_nonempty n c.ranges.value.fits in
    let full : c.args.width ≤ length (decimal n) = omega (arith, some, c.if-width-lt2.true) in
    c.push_num.ensures.bytes ∙ ap (λ (l : List ℕ). c.args.out.now.bytes ++ l) (sym (padded_full c.args.width n full))

pub returns-then-width-lt2-clause-len : goal.returns-then-width-lt2-clause-len
returns-then-width-lt2-clause-len g c =
    let some = decimal_nonempty c.args.value c.ranges.value.fits in
    omega (arith, some, c.if-width-lt2.true, c.push_num.ensures.len)
