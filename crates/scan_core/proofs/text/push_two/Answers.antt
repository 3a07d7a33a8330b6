-- Answers to the goals of `text::push_two`.
use Rattle.std.proofs.Common.{ℕ, List, ◌+◌, ◌/◌, ◌%◌, [], ◌∷◌, ◌++◌, ap, sym, append_assoc, ◌∙◌}
use Rattle.scan_core.proofs.PaddedFacts.{padded_two}
use Rattle.scan_core.proofs.text.push_two.Goals as goal

pub returns-clause-bytes : goal.returns-clause-bytes
returns-clause-bytes g c =
    let n = c.args.value in
    c.push_digit-2.ensures.bytes
    ∙ rw c.push_digit.ensures.bytes (append_assoc c.args.out.now.bytes ((48 + n / 10 % 10) ∷ []) ((48 + n % 10) ∷ []))
    ∙ ap (λ (l : List ℕ). c.args.out.now.bytes ++ l) (sym (padded_two n c.requires.value))
