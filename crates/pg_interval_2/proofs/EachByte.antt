-- Tests that each byte of a text passes, and of words each byte of each.
use Rattle.std.proofs.Common.{◌≡◌, ℕ, Bool, true, false, cond, List, [], ◌∷◌, ◌++◌, refl}
use Rattle.std.specs.Char.{is_ascii_digit}
use Rattle.std.specs.List.{list_all}
use Rattle.std.proofs.lemmas.Bool.{and_parts}
use Rattle.std.proofs.lemmas.List.Folds.{list_all-append}
use Rattle.scan_core.specs.Digits.{AreDigits}
use Rattle.scan_core.proofs.DigitFacts.{all_from_digits}

-- each byte passes the test
pub record Each (p : ℕ → Bool) (bytes : List ℕ) : Type 0 where
  pub passes : list_all p bytes ≡ true

-- each byte of each word does
abbrev pub EachWord : (ℕ → Bool) → List (List ℕ) → Type 0
EachWord p [] = Unit {0}
EachWord p (word ∷ more) = Each p word × EachWord p more

pub each-append : (p : ℕ → Bool) (a b : List ℕ) → Each p a → Each p b → Each p (a ++ b)
each-append p a b h k = record { passes = rw (list_all-append p a b, h.passes, k.passes) refl }

pub each_word-append : (p : ℕ → Bool) (a b : List (List ℕ)) → EachWord p a → EachWord p b → EachWord p (a ++ b)
each_word-append p [] b h k = k
each_word-append p (word ∷ a) b h k = (h.0, each_word-append p a b h.1 k)

pub each-if : (p : ℕ → Bool) (t : Bool) (a b : List ℕ) → Each p a → Each p b → Each p (cond t a b)
each-if p true a b h k = h
each-if p false a b h k = k

pub each_word-if : (p : ℕ → Bool) (t : Bool) (a b : List (List ℕ)) → EachWord p a → EachWord p b → EachWord p (cond t a b)
each_word-if p true a b h k = h
each_word-if p false a b h k = k

-- what passes one test passes a weaker one
pub each-weaker : (p q : ℕ → Bool) → ((x : ℕ) → p x ≡ true → q x ≡ true) → (xs : List ℕ) → list_all p xs ≡ true → list_all q xs ≡ true
each-weaker p q weaker [] h = refl
each-weaker p q weaker (x ∷ xs) h =
    let parts = and_parts (p x) (list_all p xs) h in
    let first = weaker x parts.0 in
    let rest = each-weaker p q weaker xs parts.1 in
    rw (first, rest) refl

-- digits pass where each digit does
pub each-digits : (q : ℕ → Bool) → ((d : ℕ) → is_ascii_digit d ≡ true → q d ≡ true) → (ds : List ℕ) → AreDigits ds → Each q ds
each-digits q weaker ds h = record { passes = each-weaker is_ascii_digit q weaker ds (all_from_digits ds h) }
