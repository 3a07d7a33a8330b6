-- The end of a text, looked at from its last byte on: blanks, and `ago` or none.
use Rattle.std.proofs.Common.{◌≡◌, ℕ, ◌-◌, Bool, true, false, not, List, [], ◌∷◌, ◌++◌, length, take, codes, refl, sym, ◌∙◌, ap}
use Rattle.std.proofs.Common.{append_assoc, take_all, arith}
use Rattle.std.proofs.lemmas.List.{append_cancel_right}
use Rattle.std.specs.List.{list_all}
use Rattle.std.proofs.lemmas.Bool.{and_parts}
use Rattle.scan_core.specs.Blanks.{is_blank}
use Rattle.pg_interval_2.specs.Verbose.{EndsInAgo}
use Rattle.pg_interval_2.specs.inside.VerboseReading.{solid_behind, ends_solid, AreBlanksBetween, IsEnding}
use Rattle.pg_interval_2.proofs.ItemFacts.{AreBlanks}

-- ---- no blank at the end

pub solid-append : (t : Bool) (xs ys : List ℕ) → solid_behind t (xs ++ ys) ≡ solid_behind (solid_behind t xs) ys
solid-append t [] ys = refl
solid-append t (x ∷ xs) ys = solid-append (not (is_blank x)) xs ys

blanks_left : (xs ys : List ℕ) → AreBlanks (xs ++ ys) → AreBlanks xs
blanks_left [] ys h = refl
blanks_left (x ∷ xs) ys h =
    let split = and_parts (is_blank x) (list_all is_blank (xs ++ ys)) h in
    let first = split.0 in
    let below = blanks_left xs ys split.1 in
    rw (first, below) refl

pub blanks_no_solid : (blanks : List ℕ) → AreBlanks blanks → solid_behind false blanks ≡ false
blanks_no_solid [] h = refl
blanks_no_solid (b ∷ bs) h =
    let split = and_parts (is_blank b) (list_all is_blank bs) h in
    let first = split.0 in
    rw first (blanks_no_solid bs split.1)

some_blanks : (t : Bool) (b : ℕ) (bs more : List ℕ) → AreBlanks ((b ∷ bs) ++ more) → solid_behind t (b ∷ bs) ≡ true → ⊥
some_blanks t b bs more h solid =
    let all = and_parts (is_blank b) (list_all is_blank bs) (blanks_left (b ∷ bs) more h) in
    let first = all.0 in
    let none : solid_behind t (b ∷ bs) ≡ false = rw first (blanks_no_solid bs all.1) in
    let clash : true ≡ false = sym solid ∙ none in cc

-- a text without blanks at its end is known from itself with blanks behind it
same_solid : (t u : Bool) (x y r s : List ℕ) → AreBlanks r → AreBlanks s → solid_behind t x ≡ true → solid_behind u y ≡ true
    → x ++ r ≡ y ++ s
    → x ≡ y
same_solid t u [] [] r s h k hx hy e = refl
same_solid t u [] (y ∷ ys) r s h k hx hy e = absurd (some_blanks u y ys s (ap (list_all is_blank) (sym e) ∙ h) hy)
same_solid t u (x ∷ xs) [] r s h k hx hy e = absurd (some_blanks t x xs r (ap (list_all is_blank) e ∙ k) hx)
same_solid t u (x ∷ xs) (y ∷ ys) r s h k hx hy e =
    let heads : x ≡ y = cc in
    let tails : xs ++ r ≡ ys ++ s = cc in
    let below = same_solid (not (is_blank x)) (not (is_blank y)) xs ys r s h k hx hy tails in cc

-- ---- the places before the end

pub solid_byte : (text : List ℕ) (last b : ℕ) → is_blank b ≡ false → take last text ≡ take (last - 1) text ++ b ∷ []
    → ends_solid (take last text) ≡ true
solid_byte text last b solid before = ap ends_solid before ∙ solid-append true (take (last - 1) text) (b ∷ []) ∙ rw solid refl

-- ---- `ago`

-- no text ends in these bytes
abbrev pub Lacks : List ℕ → List ℕ → Type 0
Lacks bytes end = (front : List ℕ) → bytes ≡ front ++ end → ⊥

pub no_a : (bytes before first : List ℕ) → bytes ≡ before ++ 111 ∷ [] → before ≡ first ++ 103 ∷ [] → Lacks first (97 ∷ [])
    → Lacks bytes (codes "ago")
no_a bytes before first o g lacks front e =
    let less = append_cancel_right before (front ++ (97 ∷ 103 ∷ [])) (111 ∷ [])
    (sym o ∙ e ∙ sym (append_assoc front (97 ∷ 103 ∷ []) (111 ∷ []))) in
    let least = append_cancel_right first (front ++ (97 ∷ [])) (103 ∷ []) (sym g ∙ less ∙ sym (append_assoc front (97 ∷ []) (103 ∷ []))) in
    lacks front least

-- ---- the end of the body

ends_ago : (front : List ℕ) → ends_solid (front ++ codes "ago") ≡ true
ends_ago front = solid-append true front (codes "ago")

-- no `ago` is at the end of a text whose last byte that isn't blank ends none
pub none_at_end : (text : List ℕ) (last : ℕ) → AreBlanksBetween text last (length text) → ends_solid (take last text) ≡ true
    → Lacks (take last text) (codes "ago") → EndsInAgo text
    → ⊥
none_at_end text last h solid lacks (front, after, blank, split) =
    let whole : take last text ++ h.blanks ≡ (front ++ codes "ago") ++ after =
    sym h.split ∙ take_all (length text) text (omega arith) ∙ split ∙ sym (append_assoc front (codes "ago") after) in
    lacks front (same_solid true true (take last text) (front ++ codes "ago") h.blanks after h.blank blank solid (ends_ago front) whole)

pub ends_without : (text : List ℕ) (last : ℕ) → AreBlanksBetween text last (length text) → ends_solid (take last text) ≡ true
    → Lacks (take last text) (codes "ago")
    → IsEnding text last false
ends_without text last h solid lacks = record {
  gap = [];
  after = h.blanks;
  blank_gap = refl;
  blank_after = h.blank;
  split = sym (take_all (length text) text (omega arith)) ∙ h.split;
  whole = λ none. none_at_end text last h solid lacks;
}
