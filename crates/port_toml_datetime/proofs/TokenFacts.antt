-- Tokens in front of a text: digits, marks, and what follows them.
use Rattle.std.proofs.Common.{◌≡◌, ℕ, ◌<◌, ◌==◌, Bool, true, false, cond, List, [], ◌∷◌, ◌++◌, length, refl, sym, ◌∙◌, ap, arith}
use Rattle.std.specs.Char.{is_ascii_digit, digit_value}
use Rattle.std.proofs.lemmas.Bool.Decides.{nat_tests}
use Rattle.scan_core.specs.Digits.{AreDigits}
use Rattle.scan_core.specs.Fronts.{front_digits, after_digits, NoDigitFirst}
use Rattle.scan_core.proofs.DigitFacts.{test_from_digit}
use Rattle.scan_core.proofs.FrontFacts.{front_of, after_of, front_are_digits, front_and_after}
use Rattle.port_toml_datetime.specs.Tokens.{first_token, after_token, is_digits, is_mark}

pub digit_is : (c : ℕ) → is_ascii_digit c ≡ true → digit_value c < 10
digit_is c h = grind (arith, nat_tests)

-- ---- digits in front are a token

pub record IsRun (digits text rest : List ℕ) : Type 0 where
  pub is : is_digits (first_token text) ≡ true
  pub first : first_token text ≡ digits
  pub follows : after_token text ≡ rest

pub run_exact : (digits rest : List ℕ) → 0 < length digits → AreDigits digits → NoDigitFirst rest → IsRun digits (digits ++ rest) rest
run_exact [] rest some d n = absurd (omega arith)
run_exact (c ∷ cs) rest some d n =
    let yes = test_from_digit c d.0 in
    record {
      is = rw (yes, yes) refl;
      first = rw yes (ap (λ (ds : List ℕ). c ∷ ds) (front_of cs rest d.1 n));
      follows = rw yes (after_of cs rest d.1 n);
    }

-- what a token of digits is
pub record IsFront (text : List ℕ) : Type 0 where
  pub some : 0 < length (first_token text)
  pub digits : AreDigits (first_token text)
  pub joined : text ≡ first_token text ++ after_token text

run_if : (t m : Bool) (b : ℕ) (bs : List ℕ) → is_ascii_digit b ≡ t
    → is_digits (cond t (b ∷ front_digits bs) (cond m (b ∷ []) (b ∷ bs))) ≡ true
    → let first : List ℕ = cond t (b ∷ front_digits bs) (cond m (b ∷ []) (b ∷ bs)) in
    (0 < length first) × AreDigits first × (b ∷ bs ≡ first ++ cond t (after_digits bs) (cond m bs []))
run_if true m b bs e h = (omega arith, (digit_is b e, front_are_digits bs), ap (λ (l : List ℕ). b ∷ l) (sym (front_and_after bs)))
run_if false true b bs e h = absurd (let no : false ≡ true = sym e ∙ h in cc)
run_if false false b bs e h = absurd (let no : false ≡ true = sym e ∙ h in cc)

pub run_sound : (text : List ℕ) → is_digits (first_token text) ≡ true → IsFront text
run_sound [] h = absurd (let no : false ≡ true = h in cc)
run_sound (b ∷ bs) h = let r = run_if (is_ascii_digit b) (is_mark b) b bs refl h in record { some = r.0; digits = r.1; joined = r.2 }

-- ---- digits at the front are looked for first

pub record IsFrontToken (text : List ℕ) : Type 0 where
  pub is : is_digits (first_token text) ≡ true
  pub first : front_digits text ≡ first_token text
  pub follows : after_digits text ≡ after_token text

front_if : (t m : Bool) (b : ℕ) (bs : List ℕ) → is_ascii_digit b ≡ t → 0 < length (cond {A = List ℕ} t (b ∷ front_digits bs) [])
    → IsFrontToken (b ∷ bs)
front_if true m b bs e some = record { is = rw (e, e) refl; first = rw e refl; follows = rw e refl }
front_if false m b bs e some = absurd (omega (arith, some))

front_token : (text : List ℕ) → 0 < length (front_digits text) → IsFrontToken text
front_token [] some = absurd (omega (arith, some))
front_token (b ∷ bs) some = front_if (is_ascii_digit b) (is_mark b) b bs refl some

none_if : (t m : Bool) (b : ℕ) (bs : List ℕ) → is_ascii_digit b ≡ t → length (cond {A = List ℕ} t (b ∷ front_digits bs) []) ≡ 0
    → is_digits (cond {A = List ℕ} t (b ∷ front_digits bs) (cond m (b ∷ []) (b ∷ bs))) ≡ false
none_if true m b bs e none = absurd (omega (arith, none))
none_if false true b bs e none = e
none_if false false b bs e none = e

no_front_token : (text : List ℕ) → length (front_digits text) ≡ 0 → is_digits (first_token text) ≡ false
no_front_token [] none = refl
no_front_token (b ∷ bs) none = none_if (is_ascii_digit b) (is_mark b) b bs refl none

some_are : (n : ℕ) (t : Bool) → t ≡ (n == 0) → t ≡ false → 0 < n
some_are n t e f = let g : (n == 0) ≡ false = sym e ∙ f in grind (arith, nat_tests)

none_are : (n : ℕ) (t : Bool) → t ≡ (n == 0) → t ≡ true → n ≡ 0
none_are n t e f = let g : (n == 0) ≡ true = sym e ∙ f in grind (arith, nat_tests)

pub token_found : (text found : List ℕ) (empty : Bool) → found ≡ front_digits text → empty ≡ (length found == 0) → empty ≡ false
    → IsFrontToken text
token_found text found empty front e f = front_token text (rw front at (some_are (length found) empty e f))

pub no_token_found : (text found : List ℕ) (empty : Bool) → found ≡ front_digits text → empty ≡ (length found == 0) → empty ≡ true
    → is_digits (first_token text) ≡ false
no_token_found text found empty front e f = no_front_token text (rw front at (none_are (length found) empty e f))

some_front : (t : Bool) (b : ℕ) (bs : List ℕ) → is_ascii_digit b ≡ t → t ≡ true → 0 < length (cond {A = List ℕ} t (b ∷ front_digits bs) [])
some_front true b bs e h = omega arith
some_front false b bs e h = absurd (cc)

pub digits_first : (text : List ℕ) → is_digits text ≡ true → IsFrontToken text
digits_first [] h = absurd (let no : false ≡ true = h in cc)
digits_first (b ∷ bs) h = front_token (b ∷ bs) (some_front (is_ascii_digit b) b bs refl h)

still_none : (m : Bool) (b : ℕ) (bs : List ℕ) → is_ascii_digit b ≡ false → is_digits (cond {A = List ℕ} m (b ∷ []) (b ∷ bs)) ≡ false
still_none true b bs h = h
still_none false b bs h = h

pub no_digits_first : (text : List ℕ) → is_digits text ≡ false → is_digits (first_token text) ≡ false
no_digits_first [] h = refl
no_digits_first (b ∷ bs) h = rw h (still_none (is_mark b) b bs h)
