-- Answers to the goals of `strict::is_strict`.
use Rattle.std.proofs.Common.{◌≡◌, length, arith, sym, ◌∙◌, ap, not}
use Rattle.std.proofs.lemmas.Bool.{true≢false}
use Rattle.std.proofs.lemmas.Bool.Decides.{nat_tests}
use Rattle.fancy_duration.proofs.Counts.{strict_empty}
use Rattle.fancy_duration.proofs.strict.is_strict.Goals as goal

pub returns-else-not-is_empty : goal.returns-else-not-is_empty
returns-else-not-is_empty c =
    let none : length c.args.text.now ≡ 0 = grind (arith, nat_tests) in
    (λ h. absurd (true≢false (sym h ∙ ap not c.if-not-is_empty.false)), λ h. absurd (strict_empty _ none h))
