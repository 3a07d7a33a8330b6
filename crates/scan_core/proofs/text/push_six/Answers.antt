-- Answers to the goals of `text::push_six`.
use Rattle.std.proofs.Common.{ℕ, List, ◌/◌, ◌%◌, ◌++◌, ap, sym, append_assoc, arith, ◌∙◌}
use Rattle.scan_core.specs.Padded.{padded_digits}
use Rattle.scan_core.proofs.PaddedFacts.{padded_pair}
use Rattle.scan_core.proofs.text.push_six.Goals as goal

pub returns-clause-bytes : goal.returns-clause-bytes
returns-clause-bytes g c =
    let n = c.args.value in
    c.push_two.ensures.bytes
    ∙ rw c.push_four.ensures.bytes (append_assoc c.args.out.now.bytes (padded_digits 4 (n / 100)) (padded_digits 2 (n % 100)))
    ∙ ap (λ (l : List ℕ). c.args.out.now.bytes ++ l) (sym (padded_pair 6 n (omega arith) (omega (arith, c.requires.value))))
