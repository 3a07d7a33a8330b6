-- A text is framed in one way: the `@` is its first byte that isn't blank, and `ago` is taken away where it is at the end.
use Rattle.std.proofs.Common.{◌≡◌, ℕ, Bool, true, false, List, [], ◌∷◌, ◌++◌, codes, refl, sym, ◌∙◌, ap, append_assoc, append-nil, arith}
use Rattle.std.proofs.lemmas.List.{append_cancel_left}
use Rattle.std.specs.List.{list_all}
use Rattle.std.proofs.lemmas.Bool.{and_parts}
use Rattle.scan_core.specs.Blanks.{is_blank, words}
use Rattle.scan_core.proofs.WordFacts.{ink, ink-append, same_place, words-behind}
use Rattle.pg_interval_2.specs.Verbose.{IsFramed, EndsInAgo}
use Rattle.pg_interval_2.specs.inside.VerboseParts.{ago_or_none}
use Rattle.pg_interval_2.proofs.BadNames.{ink_blanks}
use Rattle.pg_interval_2.proofs.ItemFacts.{AreBlanks}
use Rattle.pg_interval_2.proofs.ItemWords.{words-blanks}

-- the body with the blanks behind it, where no `ago` stands between
abbrev pub whole_body : Bool → List ℕ → List ℕ → List ℕ
whole_body true body after = body
whole_body false body after = body ++ after

pub framed_ago : (text before body : List ℕ) → IsFramed text before body true → EndsInAgo text
framed_ago text before body f = (
  before ++ (64 ∷ body),
  f.after,
  f.blank_after,
  f.joined
      ∙ sym (append_assoc before (64 ∷ body) (codes "ago" ++ f.after)),
)

-- what follows the `@`
abbrev pub behind_at : Bool → List ℕ → List ℕ → List ℕ
behind_at ago body after = body ++ (ago_or_none ago ++ after)

pub same_before : (x y s t : List ℕ) → AreBlanks x → AreBlanks y → x ++ (64 ∷ s) ≡ y ++ (64 ∷ t) → x ≡ y
same_before x y s t h k e = same_place x y s t 64 64 refl refl (ink_blanks x h ∙ sym (ink_blanks y k)) e

pub same_behind : (x y s t : List ℕ) → x ≡ y → x ++ (64 ∷ s) ≡ y ++ (64 ∷ t) → s ≡ t
same_behind x y s t same e =
    let tails : 64 ∷ s ≡ 64 ∷ t = append_cancel_left y (64 ∷ s) (64 ∷ t) (ap (λ (l : List ℕ). l ++ (64 ∷ s)) (sym same) ∙ e) in cc

same_ago : (x y s t : List ℕ) → AreBlanks s → AreBlanks t → x ++ (codes "ago" ++ s) ≡ y ++ (codes "ago" ++ t) → x ≡ y
same_ago x y s t h k e =
    let total = ap ink e in
    let left = ink-append x (codes "ago" ++ s) in
    let right = ink-append y (codes "ago" ++ t) in
    let none = ink_blanks s h in
    let nothing = ink_blanks t k in
    same_place x y (103 ∷ 111 ∷ s) (103 ∷ 111 ∷ t) 97 97 refl refl (omega (arith, total, left, right, none, nothing)) e

pub record IsSameFrame (x y : List ℕ) (a b : Bool) (u v s t : List ℕ) : Type 0 where
  pub before : x ≡ y
  pub ago : a ≡ b
  pub whole : whole_body a u s ≡ whole_body b v t

pub one_frame : (text x y u v : List ℕ) (a b : Bool) (f : IsFramed text x u a) (g : IsFramed text y v b) → (a ≡ false → EndsInAgo text → ⊥)
    → (b ≡ false → EndsInAgo text → ⊥)
    → IsSameFrame x y a b u v f.after g.after
one_frame text x y u v true true f g h k =
    let e = sym f.joined ∙ g.joined in
    let before = same_before x y (behind_at true u f.after) (behind_at true v g.after) f.blank_before g.blank_before e in
    record { before = before; ago = refl; whole = same_ago u v f.after g.after f.blank_after g.blank_after (same_behind x y _ _ before e) }
one_frame text x y u v false false f g h k =
    let e = sym f.joined ∙ g.joined in
    let before = same_before x y (behind_at false u f.after) (behind_at false v g.after) f.blank_before g.blank_before e in
    record { before = before; ago = refl; whole = same_behind x y _ _ before e }
one_frame text x y u v true false f g h k = absurd (k refl (framed_ago text x u f))
one_frame text x y u v false true f g h k = absurd (h refl (framed_ago text y v g))

-- ---- blanks behind a body

only_blanks : (blanks : List ℕ) → AreBlanks blanks → words blanks ≡ []
only_blanks blanks h = ap words (sym (append-nil blanks)) ∙ words-blanks blanks [] h

pub words_before : (body after : List ℕ) → AreBlanks after → words (body ++ after) ≡ words body
words_before body [] h = ap words (append-nil body)
words_before body (b ∷ bs) h =
    let split = and_parts (is_blank b) (list_all is_blank bs) h in
    words-behind body b bs split.0 ∙ ap (λ (l : List (List ℕ)). words body ++ l) (only_blanks bs split.1) ∙ append-nil (words body)

pub whole_words : (ago : Bool) (body after : List ℕ) → AreBlanks after → words (whole_body ago body after) ≡ words body
whole_words true body after h = refl
whole_words false body after h = words_before body after h
