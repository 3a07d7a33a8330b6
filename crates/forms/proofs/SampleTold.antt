-- What is told of the replies: the counts on the way through them, and the line of all counts.
use Rattle.std.proofs.Common.{◌≡◌, ℕ, ◌+◌, ◌≤◌, true, false, List, [], ◌∷◌, ◌++◌, length, codes, decimal, refl, ◌∙◌, ap, arith}
use Rattle.std.proofs.Common.{length-append}
use Rattle.forms.specs.Lines.{whole_lines}
use Rattle.forms.specs.Sample.{answers, is_refusal, refusals, told}
use Rattle.forms.specs.inside.Pieces.{NoFeed}
use Rattle.forms.proofs.LinePieces.{feed_whole, part_not_whole}
use Rattle.forms.proofs.SampleLines.{pushed}

-- ---- the replies one by one

first_reply : (rest reply after : List ℕ) → NoFeed reply → rest ≡ reply ++ (codes "\n" ++ after)
    → whole_lines rest ≡ reply ∷ whole_lines after
first_reply rest reply after none h = ap whole_lines h ∙ feed_whole reply after none

shorter : (rest reply after : List ℕ) → rest ≡ reply ++ (codes "\n" ++ after) → length after + 1 ≤ length rest
shorter rest reply after h = let all = ap length h ∙ length-append reply (codes "\n" ++ after) in omega arith

-- what follows from a reply at the front
pub record IsFirst (rest after : List ℕ) (ok refused : ℕ) : Type 0 where
  pub answer : answers (whole_lines rest) ≡ ok + answers (whole_lines after)
  pub refusal : refusals (whole_lines rest) ≡ refused + refusals (whole_lines after)
  pub shorter : length after + 1 ≤ length rest

pub first_refused : (rest reply after : List ℕ) → NoFeed reply → rest ≡ reply ++ (codes "\n" ++ after) → is_refusal reply ≡ true
    → IsFirst rest after 0 1
first_refused rest reply after none h kind =
    let same = first_reply rest reply after none h in
    record { answer = rw (same, kind) refl; refusal = rw (same, kind) refl; shorter = shorter rest reply after h }

pub first_answered : (rest reply after : List ℕ) → NoFeed reply → rest ≡ reply ++ (codes "\n" ++ after) → is_refusal reply ≡ false
    → IsFirst rest after 1 0
first_answered rest reply after none h kind =
    let same = first_reply rest reply after none h in
    record { answer = rw (same, kind) refl; refusal = rw (same, kind) refl; shorter = shorter rest reply after h }

pub none_left : (rest : List ℕ) → NoFeed rest → (answers (whole_lines rest) ≡ 0) × (refusals (whole_lines rest) ≡ 0)
none_left rest none = let same = part_not_whole rest none in (rw same refl, rw same refl)

-- ---- the line of all counts

pub told_pushed : (lines ok refused bytes : ℕ) (a b c d e f : List ℕ) → a ≡ [] → b ≡ a ++ (codes "lines " ++ decimal lines)
    → c ≡ b ++ (codes " ok " ++ decimal ok)
    → d ≡ c ++ (codes " refused " ++ decimal refused) → e ≡ d ++ (codes " bytes " ++ decimal bytes) → f ≡ e ++ codes "\n"
    → f ≡ told lines ok refused bytes
unfolding told
told_pushed lines ok refused bytes a b c d e f ha hb hc hd he hf =
    let fourth : List ℕ = codes " bytes " ++ (decimal bytes ++ codes "\n") in
    let third : List ℕ = codes " refused " ++ (decimal refused ++ fourth) in
    let second : List ℕ = codes " ok " ++ (decimal ok ++ third) in
    let first : List ℕ = codes "lines " ++ (decimal lines ++ second) in
    hf
    ∙ (pushed d e (codes " bytes ") (decimal bytes) (codes "\n") he
    ∙ (pushed c d (codes " refused ") (decimal refused) fourth hd
    ∙ (pushed b c (codes " ok ") (decimal ok) third hc
    ∙ (pushed a b (codes "lines ") (decimal lines) second hb ∙ ap (λ (l : List ℕ). l ++ first) ha))))
