-- Readers on lists against grammars: what a reader finds is there, and nothing longer is.
use Rattle.std.proofs.Common.{◌≡◌, ℕ, ◌≤◌, ◌⊎◌, List, [], ◌∷◌, ◌++◌, length, Option, Some, None, refl, sym, ◌∙◌, ap, subst, append-nil}
use Rattle.std.proofs.Common.{arith, inl, inr}
use Rattle.std.specs.Prelude.{option_and_then}
use Rattle.iso8601.specs.Prefixes.{Begins, NoneLonger, NoneBegins, BeginsLongest}
use Rattle.iso8601.specs.inside.Reading.{or_else}

-- something was read, up to this rest or further
abbrev pub Reaches : {V : Type 0} → Option (V × List ℕ) → List ℕ → Type 0
Reaches None rest = ⊥
Reaches (Some r) rest = length r.1 ≤ length rest

-- what is read stands in front
abbrev pub Sound : {V : Type 0} → (List ℕ → V → Type 0) → (List ℕ → Option (V × List ℕ)) → Type 0
Sound {V} Is read = (bytes rest : List ℕ) (value : V) → read bytes ≡ Some (value, rest) → Begins Is bytes value rest

-- where a text stands in front, the reader comes as far
abbrev pub Reach : {V : Type 0} → (List ℕ → V → Type 0) → (List ℕ → Option (V × List ℕ)) → Type 0
Reach {V} Is read = (text rest : List ℕ) (value : V) → Is text value → Reaches (read (text ++ rest)) rest

-- where a text stands in front, the reader finds just it: no text of the grammar begins another
abbrev pub Exact : {V : Type 0} → (List ℕ → V → Type 0) → (List ℕ → Option (V × List ℕ)) → Type 0
Exact {V} Is read = (text rest : List ℕ) (value : V) → Is text value → read (text ++ rest) ≡ Some (value, rest)

at_found : {V : Type 0} (o : Option (V × List ℕ)) (value : V) (rest : List ℕ) → o ≡ Some (value, rest) → Reaches o rest
at_found o value rest h = rw h (omega arith)

pub reach_from_exact : {V : Type 0} (Is : List ℕ → V → Type 0) (read : List ℕ → Option (V × List ℕ)) → Exact Is read → Reach Is read
reach_from_exact Is read exact text rest value is = at_found (read (text ++ rest)) value rest (exact text rest value is)

-- what was read, with a value made of its value
abbrev pub with_value : {V W : Type 0} → (V → W) → Option (V × List ℕ) → Option (W × List ℕ)
with_value f r = option_and_then (λ x. Some (f x.0, x.1)) r

pub reaches_with : {V W : Type 0} (f : V → W) (o : Option (V × List ℕ)) (rest : List ℕ) → Reaches o rest → Reaches (with_value f o) rest
reaches_with f None rest h = h
reaches_with f (Some x) rest h = h

-- ---- one of two kinds

both_sound : {V : Type 0} (a b : Option (V × List ℕ)) (r : V × List ℕ) → or_else a b ≡ Some r → (a ≡ Some r) ⊎ (b ≡ Some r)
both_sound (Some x) b r h = inl h
both_sound None b r h = inr h

pub either_sound : {V : Type 0} (A B : List ℕ → V → Type 0) (ra rb : List ℕ → Option (V × List ℕ)) → Sound A ra → Sound B rb
    → Sound (λ text value. A text value ⊎ B text value) (λ bytes. or_else (ra bytes) (rb bytes))
either_sound A B ra rb sa sb bytes rest value h =
    elim (both_sound (ra bytes) (rb bytes) (value, rest) h) [
      | inl a ↦ let s = sa bytes rest value a in (s.0, inl s.1, s.2)
      | inr b ↦ let s = sb bytes rest value b in (s.0, inr s.1, s.2)
    ]

-- what the first reader finds is no shorter than what the second does
abbrev pub NoShorter : {V : Type 0} → Option (V × List ℕ) → Option (V × List ℕ) → Type 0
NoShorter {V} a b = (x y : V × List ℕ) → a ≡ Some x → b ≡ Some y → length x.1 ≤ length y.1

both_reach : {V : Type 0} (a b : Option (V × List ℕ)) (rest : List ℕ) → NoShorter a b → Reaches a rest ⊎ Reaches b rest
    → Reaches (or_else a b) rest
both_reach (Some x) b rest le (inl r) = r
both_reach (Some x) (Some y) rest le (inr r) = let k = le x y refl refl in omega arith
both_reach (Some x) None rest le (inr r) = absurd r
both_reach None b rest le (inl r) = absurd r
both_reach None b rest le (inr r) = r

pub either_reach : {V : Type 0} (A B : List ℕ → V → Type 0) (ra rb : List ℕ → Option (V × List ℕ)) → Reach A ra → Reach B rb
    → ((bytes : List ℕ) → NoShorter (ra bytes) (rb bytes)) → Reach (λ text value. A text value ⊎ B text value)
    (λ bytes. or_else (ra bytes) (rb bytes))
either_reach A B ra rb pa pb le text rest value (inl a) = both_reach (ra (text ++ rest)) (rb (text ++ rest)) rest (le (text ++ rest))
    (inl (pa text rest value a))
either_reach A B ra rb pa pb le text rest value (inr b) = both_reach (ra (text ++ rest)) (rb (text ++ rest)) rest (le (text ++ rest))
    (inr (pb text rest value b))

-- ---- the three clauses of a parser

reach_at : {V : Type 0} (Is : List ℕ → V → Type 0) (read : List ℕ → Option (V × List ℕ)) → Reach Is read
    → (bytes left : List ℕ) (value : V) → Begins Is bytes value left → Reaches (read bytes) left
reach_at Is read reach bytes left value b = rw b.2 (reach b.0 left value b.1)

pub none_longer : {V : Type 0} (Is : List ℕ → V → Type 0) (read : List ℕ → Option (V × List ℕ)) → Reach Is read
    → (bytes rest : List ℕ) (value : V) → read bytes ≡ Some (value, rest) → NoneLonger Is bytes rest
none_longer Is read reach bytes rest value found other left b = rw found at (reach_at Is read reach bytes left other b)

pub none_begins : {V : Type 0} (Is : List ℕ → V → Type 0) (read : List ℕ → Option (V × List ℕ)) → Reach Is read
    → (bytes : List ℕ) → read bytes ≡ None → NoneBegins Is bytes
none_begins Is read reach bytes none other left b = rw none at (reach_at Is read reach bytes left other b)

-- ---- the same bytes under another name

pub longest_of : {V : Type 0} (Is : List ℕ → V → Type 0) {bytes text rest : List ℕ} {value : V} → bytes ≡ text → Begins Is bytes value rest
    → NoneLonger Is bytes rest → BeginsLongest Is text value
longest_of {V} Is {bytes} {text} {rest} {value} same found longest =
    let P : List ℕ → Type 0 = λ b. BeginsLongest Is b value in subst P same (rest, found, longest)

pub none_of : {V : Type 0} (Is : List ℕ → V → Type 0) {bytes text : List ℕ} → bytes ≡ text → NoneBegins Is bytes → NoneBegins Is text
none_of Is same none = let P : List ℕ → Type 0 = λ b. NoneBegins Is b in subst P same none

-- ---- a whole text

pub nothing : (rest : List ℕ) → length rest ≤ 0 → rest ≡ []
nothing [] h = refl
nothing (b ∷ bs) h = absurd (omega arith)

-- what is read in front of a text of the grammar is the text and its one value
pub whole_text : {V : Type 0} (Is : List ℕ → V → Type 0) → ((text : List ℕ) (a b : V) → Is text a → Is text b → a ≡ b)
    → (text : List ℕ) (v : V) → Is text v → (value : V) (rest : List ℕ) → Begins Is text value rest → NoneLonger Is text rest → (value ≡ v)
    × (rest ≡ [])
whole_text {V} Is one text v is value rest found longest =
    let all : rest ≡ [] = nothing rest (longest v [] (text, is, sym (append-nil text))) in
    let same : found.0 ≡ text = sym (found.2 ∙ ap (λ (r : List ℕ). found.0 ++ r) all ∙ append-nil found.0) in
    let P : List ℕ → Type 0 = λ t. Is t value in
    (one text value v (subst P same found.1) is, all)
