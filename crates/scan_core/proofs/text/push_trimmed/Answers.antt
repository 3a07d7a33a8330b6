-- Answers to the goals of `text::push_trimmed`.
use Rattle.std.proofs.Common.{ℕ, List, ◌++◌, ap, sym, ◌∙◌}
use Rattle.scan_core.proofs.TrimmedFacts.{kept}
use Rattle.scan_core.proofs.text.push_trimmed.Goals as goal

pub returns-else-value-eq0-clause-bytes : goal.returns-else-value-eq0-clause-bytes
returns-else-value-eq0-clause-bytes g c =
    let same = kept c.args.width c.args.value c.ranges.value.fits c.if-value-eq0.false in
    c.push_padded.ensures.bytes ∙ ap (λ (l : List ℕ). c.args.out.now.bytes ++ l) (sym same)
