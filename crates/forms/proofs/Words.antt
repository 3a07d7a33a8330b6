-- The names in front of texts: what stands before the first space is fixed by the text.
use Rattle.std.proofs.Common.{◌≡◌, ℕ, ◌==◌, not, Bool, true, List, [], ◌∷◌, ◌++◌, Option, Some, None, refl, sym, ◌∙◌, inl, inr}
use Rattle.std.specs.Prelude.{unwrap_or}
use Rattle.std.specs.List.{list_all}
use Rattle.std.proofs.lemmas.Bool.{and_parts, eqb-false, not-true}
use Rattle.forms.specs.declared.form.Form.{Form}
use Rattle.forms.specs.Names.{name_of}
use Rattle.forms.proofs.NamedForms.{each}
use Rattle.forms.specs.inside.Requests.{IsTail}
use Rattle.forms.specs.inside.Reading.{behind, IsNamed}

abbrev is_no_space : ℕ → Bool
is_no_space byte = not (byte == 32)

-- no form's name has a space
spaceless : (form : Form) → list_all is_no_space (name_of form) ≡ true
spaceless = each (λ form. list_all is_no_space (name_of form)) refl

same_behind : (r s : Option (List ℕ)) → behind r ≡ behind s → r ≡ s
same_behind None None h = refl
same_behind None (Some b) h = cc
same_behind (Some a) None h = cc
same_behind (Some a) (Some b) h = cc

-- a space isn't inside a word
no_word_behind : (r : Option (List ℕ)) (byte : ℕ) (bytes : List ℕ) → is_no_space byte ≡ true → behind r ≡ byte ∷ bytes
    → ⊥
no_word_behind None byte bytes n h = cc
no_word_behind (Some a) byte bytes n h = eqb-false byte 32 (not-true (byte == 32) n) (let same : 32 ≡ byte = cc in sym same)

-- a text has one first word, and one rest
one_split : (v w : List ℕ) (r s : Option (List ℕ)) → list_all is_no_space v ≡ true → list_all is_no_space w ≡ true
    → v ++ behind r ≡ w ++ behind s → (v ≡ w) × (r ≡ s)
one_split [] [] r s nv nw h = (refl, same_behind r s h)
one_split [] (b ∷ bs) r s nv nw h =
    absurd (no_word_behind r b (bs ++ behind s) (and_parts (is_no_space b) (list_all is_no_space bs) nw).0 h)
one_split (a ∷ bytes) [] r s nv nw h =
    absurd (no_word_behind s a (bytes ++ behind r) (and_parts (is_no_space a) (list_all is_no_space bytes) nv).0 (sym h))
one_split (a ∷ bytes) (b ∷ bs) r s nv nw h =
    let rest_v = (and_parts (is_no_space a) (list_all is_no_space bytes) nv).1 in
    let rest_w = (and_parts (is_no_space b) (list_all is_no_space bs) nw).1 in
    let heads : a ≡ b = cc in
    let tails : bytes ++ behind r ≡ bs ++ behind s = cc in
    let below = one_split bytes bs r s rest_v rest_w tails in
    let words : bytes ≡ bs = below.0 in
    (cc, below.1)

-- what follows a request's names is what follows a word
pub tail_behind : (text tail : List ℕ) → IsTail text tail
    → (rest : Option (List ℕ)) × (tail ≡ behind rest) × (text ≡ unwrap_or rest [])
tail_behind text tail (inl end) = (None, end.1, end.0)
tail_behind text tail (inr more) = (Some text, more, refl)

-- a text begins with one name, and has one rest behind it
pub one_name : (text : List ℕ) (a b : Option (List ℕ)) (f g : Form) → IsNamed text f a → IsNamed text g b
    → (name_of f ≡ name_of g) × (a ≡ b)
one_name text a b f g first second = one_split (name_of f) (name_of g) a b (spaceless f) (spaceless g) (sym first ∙ second)
