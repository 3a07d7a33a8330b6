-- Marks in front of a text.
use Rattle.std.proofs.Common.{◌≡◌, ℕ, ◌||◌, ◌==◌, ◌⊎◌, Bool, true, false, cond, List, [], ◌∷◌, codes, refl, sym, ◌∙◌, arith, inl, inr}
use Rattle.std.specs.Char.{is_ascii_digit}
use Rattle.std.proofs.lemmas.Bool.Decides.{nat_tests}
use Rattle.scan_core.specs.Fronts.{front_digits}
use Rattle.port_toml_datetime.specs.Tokens.{first_token, after_token, is_of, is_mark, is_one_of, is_end}

of_if : (digit mark : Bool) (marks : List ℕ) (b : ℕ) (bs front : List ℕ)
    → is_of marks (cond digit (b ∷ front) (cond mark (b ∷ []) (b ∷ bs))) ≡ is_one_of marks b
of_if true mark marks b bs front = refl
of_if false true marks b bs front = refl
of_if false false marks b bs front = refl

-- the first byte says of which marks a token is
pub of_first : (marks : List ℕ) (b : ℕ) (bs : List ℕ) → is_of marks (first_token (b ∷ bs)) ≡ is_one_of marks b
of_first marks b bs = of_if (is_ascii_digit b) (is_mark b) marks b bs (front_digits bs)

one_is : (b m : ℕ) → ((b == m) || false) ≡ true → b ≡ m
one_is b m h = grind (arith, nat_tests)

two_are : (b m n : ℕ) → ((b == m) || ((b == n) || false)) ≡ true → (b ≡ m) ⊎ (b ≡ n)
two_are b m n h = grind (arith, nat_tests)

-- the byte, and what follows it
pub behind_mark : (m : ℕ) (bs : List ℕ) → is_ascii_digit m ≡ false → is_mark m ≡ true → after_token (m ∷ bs) ≡ bs
behind_mark m bs d k = rw (d, k) refl

pub mark_sound : (m : ℕ) (text : List ℕ) → is_ascii_digit m ≡ false → is_mark m ≡ true → is_of (m ∷ []) (first_token text) ≡ true
    → text ≡ m ∷ after_token text
mark_sound m [] d k h = absurd (let no : false ≡ true = h in cc)
mark_sound m (b ∷ bs) d k h =
    let here : b ≡ m = one_is b m (sym (of_first (m ∷ []) b bs) ∙ h) in
    rw (here, behind_mark m bs d k) refl

pub either_sound : (m n : ℕ) (text : List ℕ) → is_ascii_digit m ≡ false → is_mark m ≡ true → is_ascii_digit n ≡ false → is_mark n ≡ true
    → is_of (m ∷ n ∷ []) (first_token text) ≡ true → (text ≡ m ∷ after_token text) ⊎ (text ≡ n ∷ after_token text)
either_sound m n [] d k e l h = absurd (let no : false ≡ true = h in cc)
either_sound m n (b ∷ bs) d k e l h =
    elim (two_are b m n (sym (of_first (m ∷ n ∷ []) b bs) ∙ h)) [
      | inl here ↦ inl (rw (here, behind_mark m bs d k) refl)
      | inr here ↦ inr (rw (here, behind_mark n bs e l) refl)
    ]

pub end_sound : (text : List ℕ) → is_end text ≡ true → text ≡ []
end_sound [] h = refl
end_sound (b ∷ bs) h = absurd (let no : false ≡ true = h in cc)

pub delimiter_is : (b : ℕ) → is_one_of (codes "Tt ") b ≡ true → (b ≡ 84) ⊎ ((b ≡ 116) ⊎ (b ≡ 32))
delimiter_is b h = grind (arith, nat_tests)

pub record IsMarkFirst (marks text rest : List ℕ) : Type 0 where
  pub is : is_of marks (first_token text) ≡ true
  pub follows : after_token text ≡ rest

pub delimiter_first : (b : ℕ) (bs : List ℕ) → is_one_of (codes "Tt ") b ≡ true → IsMarkFirst (codes "Tt ") (b ∷ bs) bs
delimiter_first b bs h =
    elim (delimiter_is b h) [
      | inl upper ↦ rw upper (record { is = refl; follows = refl })
      | inr (inl lower) ↦ rw lower (record { is = refl; follows = refl })
      | inr (inr space) ↦ rw space (record { is = refl; follows = refl })
    ]

pub no_delimiter_first : (b : ℕ) (bs : List ℕ) → is_one_of (codes "Tt ") b ≡ false → is_of (codes "Tt ") (first_token (b ∷ bs)) ≡ false
no_delimiter_first b bs h = of_first (codes "Tt ") b bs ∙ h
