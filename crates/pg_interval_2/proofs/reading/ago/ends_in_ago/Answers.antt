-- Answers to the goals of `reading::ago::ends_in_ago`.
use Rattle.std.proofs.Common.{◌≡◌, ℕ, ◌-◌, ◌++◌, ◌∷◌, [], refl, take, arith, ap, ◌∙◌}
use Rattle.pg_interval_2.proofs.TextEnds.{no_a}
use Rattle.pg_interval_2.proofs.reading.ago.ends_in_ago.Goals as goal

pub returns-clause-no : goal.returns-clause-no
returns-clause-no g c =
    let text = c.args.text.now in
    let end = c.args.end in
    let o = (c.if-not-ends_in.ensures.yes refl).1 in
    let g = (c.if-not-ends_in-2.ensures.yes refl).1 in
    let place : end - 1 - 1 ≡ end - 2 = omega arith in
    λ none. no_a (take end text) (take (end - 1) text) (take (end - 2) text) o (g ∙ ap (λ (n : ℕ). take n text ++ 103 ∷ []) place)
    (c.ends_in-3.ensures.no none)
