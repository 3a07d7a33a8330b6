-- Fields with a TAB between.
use Rattle.std.proofs.Common.{◌≡◌, ◌==◌, ℕ, zero, suc, ◌+◌, ◌-◌, ◌<◌, ◌≤◌, true, false, List, [], ◌∷◌, ◌++◌, length, take, drop, refl}
use Rattle.std.proofs.Common.{sym, ◌∙◌, ap, subst, append_assoc, length-append, length-drop, arith}
use Rattle.std.proofs.Math.Seq.{take-add}
use Rattle.std.proofs.lemmas.List.{take_at, drop_at, drop-drop, append_cancel_right}
use Rattle.whole_input.specs.Parts.{HasNo, IsSplitAt}
use Rattle.text_lines.specs.Fields.{AreTabbed}

-- one more field behind others
pub tabbed_push : (n : ℕ) (x field : List ℕ) → AreTabbed n x → HasNo 9 field → AreTabbed (suc n) (x ++ (field ++ 9 ∷ []))
tabbed_push zero x field h free = (field, [], record { first = free; joined = ap (λ (l : List ℕ). l ++ (field ++ 9 ∷ [])) h }, refl)
tabbed_push (suc n) x field h free = (
  h.0,
  h.1 ++ (field ++ 9 ∷ []),
  record {
    first = h.2.first;
    joined = ap (λ (l : List ℕ). l ++ (field ++ 9 ∷ [])) h.2.joined
        ∙ append_assoc h.0 (9 ∷ h.1) (field ++ 9 ∷ []);
  },
  tabbed_push n h.1 field h.3 free,
)

abbrev behind_head : List ℕ → List ℕ
behind_head [] = []
behind_head (byte ∷ bytes) = bytes

abbrev head_is : ℕ → List ℕ → Type 0
head_is mark [] = ⊥
head_is mark (byte ∷ bytes) = (byte == mark) ≡ true

no_head : (byte mark : ℕ) (bytes rest : List ℕ) → ((byte == mark) ≡ false) → byte ∷ bytes ≡ mark ∷ rest → (mark == mark) ≡ true → ⊥
no_head byte mark bytes rest free same self =
    let is : head_is mark (byte ∷ bytes) = subst (head_is mark) (sym same) self in
    let clash : false ≡ true = sym free ∙ is in cc

-- where the byte isn't, nothing is split at it
pub no_split : (mark : ℕ) (x f r : List ℕ) → ((mark == mark) ≡ true) → HasNo mark x → x ≡ f ++ mark ∷ r → ⊥
no_split mark [] [] r self h same = let sizes : 0 ≡ suc (length r) = ap length same in absurd (omega (arith, sizes))
no_split mark [] (b ∷ f) r self h same = let sizes : 0 ≡ suc (length (f ++ mark ∷ r)) = ap length same in absurd (omega (arith, sizes))
no_split mark (byte ∷ x) [] r self h same = no_head byte mark x r h.0 same self
no_split mark (byte ∷ x) (b ∷ f) r self h same = no_split mark x f r self h.1 (ap behind_head same)

-- what follows the first such byte is one text
pub split_same : (mark : ℕ) (f g r s : List ℕ) → ((mark == mark) ≡ true) → HasNo mark f → HasNo mark g → f ++ mark ∷ r ≡ g ++ mark ∷ s
    → r ≡ s
split_same mark [] [] r s self h k same = ap behind_head same
split_same mark [] (b ∷ g) r s self h k same = absurd (no_head b mark (g ++ mark ∷ s) r k.0 (sym same) self)
split_same mark (byte ∷ f) [] r s self h k same = absurd (no_head byte mark (f ++ mark ∷ r) s h.0 same self)
split_same mark (byte ∷ f) (b ∷ g) r s self h k same = split_same mark f g r s self h.1 k.1 (ap behind_head same)

-- and so is what stands before it
pub split_front : (mark : ℕ) (f g r s : List ℕ) → r ≡ s → f ++ mark ∷ r ≡ g ++ mark ∷ s → f ≡ g
split_front mark f g r s rests same = append_cancel_right f g (mark ∷ s) (ap (λ (l : List ℕ). f ++ mark ∷ l) (sym rests) ∙ same)

-- so many fields are in front of a rest
abbrev pub StillTabbed : ℕ → List ℕ → ℕ → List ℕ → Type 0
StillTabbed number line left here = (before rest : List ℕ) → AreTabbed number before → line ≡ before ++ rest
    → (b : List ℕ) × AreTabbed left b × (here ≡ b ++ rest)

pub none_left : (left : ℕ) (here b rest : List ℕ) → 0 < left → HasNo 9 here → AreTabbed left b → here ≡ b ++ rest → ⊥
none_left zero here b rest some free h same = absurd (omega (arith, some))
none_left (suc left) here b rest some free h same =
    no_split 9 here h.0 (h.1 ++ rest) refl free (same ∙ (ap (λ (l : List ℕ). l ++ rest) h.2.joined ∙ append_assoc h.0 (9 ∷ h.1) rest))

pub one_less : (left : ℕ) (here front back b rest : List ℕ) → 0 < left → IsSplitAt 9 here front back → AreTabbed left b → here ≡ b ++ rest
    → (c : List ℕ) × AreTabbed (left - 1) c × (back ≡ c ++ rest)
one_less zero here front back b rest some split h same = absurd (omega (arith, some))
one_less (suc left) here front back b rest some split h same =
    let other : here ≡ h.0 ++ 9 ∷ (h.1 ++ rest) = same ∙ (ap (λ (l : List ℕ). l ++ rest) h.2.joined ∙ append_assoc h.0 (9 ∷ h.1) rest) in
    let behind : back ≡ h.1 ++ rest = split_same 9 front h.0 back (h.1 ++ rest) refl split.first h.2.first (sym split.joined ∙ other) in
    let less : left ≡ suc left - 1 = omega arith in
    (h.1, subst (λ (k : ℕ). AreTabbed k h.1) less h.3, behind)

pub still_less : (number left : ℕ) (line here front back : List ℕ) → 0 < left → StillTabbed number line left here
    → IsSplitAt 9 here front back → StillTabbed number line (left - 1) back
still_less number left line here front back some still split before rest tabbed same =
    let h = still before rest tabbed same in
    one_less left here front back h.0 rest some split h.1 h.2

-- so many first bytes end with a TAB
pub tabbed_more : (number left at : ℕ) (line field back : List ℕ) → 0 < left → left ≤ number → AreTabbed (number - left) (take at line)
    → IsSplitAt 9 (drop at line) field back
    → AreTabbed (number - (left - 1)) (take (at + (length field + 1)) line)
tabbed_more number left at line field back some most h split =
    let ended : List ℕ = field ++ 9 ∷ [] in
    let joined : drop at line ≡ ended ++ back = split.joined ∙ sym (append_assoc field (9 ∷ []) back) in
    let here : take (length field + 1) (drop at line) ≡ ended = ap (take (length field + 1)) joined
    ∙ take_at ended back (length field + 1) (length-append field (9 ∷ [])) in
    let all : take (at + (length field + 1)) line ≡ take at line ++ ended = take-add at (length field + 1) line
    ∙ ap (λ (l : List ℕ). take at line ++ l) here in
    let pushed = tabbed_push (number - left) (take at line) field h split.first in
    let number_same : suc (number - left) ≡ number - (left - 1) = omega (arith, some, most) in
    subst (λ (k : ℕ). AreTabbed k (take (at + (length field + 1)) line)) number_same
    (subst (AreTabbed (suc (number - left))) (sym all) pushed)

-- what follows a field and its TAB
pub behind_field : (at : ℕ) (line field back : List ℕ) → IsSplitAt 9 (drop at line) field back → back ≡ drop (at + (length field + 1)) line
behind_field at line field back split =
    let ended : List ℕ = field ++ 9 ∷ [] in
    let joined : drop at line ≡ ended ++ back = split.joined ∙ sym (append_assoc field (9 ∷ []) back) in
    sym (sym (drop-drop (length field + 1) at line) ∙ (ap (drop (length field + 1)) joined
    ∙ drop_at ended back (length field + 1) (length-append field (9 ∷ []))))

-- a field with its TAB lies within the line
pub field_within : (at : ℕ) (line field back : List ℕ) → at ≤ length line → IsSplitAt 9 (drop at line) field back
    → at + (length field + 1) ≤ length line
field_within at line field back within split =
    let left = length-drop at line in
    let sizes : length (drop at line) ≡ length (field ++ 9 ∷ back) = ap length split.joined in
    let parts = length-append field (9 ∷ back) in
    omega (arith, left, sizes, parts, within)
