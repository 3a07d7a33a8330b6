-- The front of a text is found: bytes that pass a test stand there, and none behind them does.
use Rattle.std.proofs.Common.{◌≡◌, ℕ, ◌≤◌, Bool, true, false, cond, List, [], ◌∷◌, ◌++◌, length, refl, ap, arith, take, zero, suc, sym, ◌∙◌}
use Rattle.std.proofs.lemmas.Bool.{and_parts}
use Rattle.std.specs.Char.{is_ascii_digit}
use Rattle.std.specs.List.{list_all}
use Rattle.scan_core.specs.Digits.{AreDigits}
use Rattle.scan_core.specs.Fronts.{leading, behind, BeginsWithout, front_digits, after_digits, NoDigitFirst}
use Rattle.scan_core.proofs.DigitFacts.{digits_from_all, all_from_digits}

-- ---- any test

-- bytes that pass, behind which none does, are the front
pub leading_of : (test : ℕ → Bool) (front rest : List ℕ) → list_all test front ≡ true → BeginsWithout test rest
    → leading test (front ++ rest) ≡ front
leading_of test [] [] all n = refl
leading_of test [] (b ∷ bs) all n = rw n refl
leading_of test (c ∷ cs) rest all n = let p = and_parts (test c) (list_all test cs) all in
    rw p.0 (ap (λ (l : List ℕ). c ∷ l) (leading_of test cs rest p.1 n))

pub leading_skips : (test : ℕ → Bool) (front rest : List ℕ) → list_all test front ≡ true
    → leading test (front ++ rest) ≡ front ++ leading test rest
leading_skips test [] rest all = refl
leading_skips test (c ∷ cs) rest all = let p = and_parts (test c) (list_all test cs) all in
    rw p.0 (ap (λ (l : List ℕ). c ∷ l) (leading_skips test cs rest p.1))

pub behind_skips : (test : ℕ → Bool) (front rest : List ℕ) → list_all test front ≡ true → behind test (front ++ rest) ≡ behind test rest
behind_skips test [] rest all = refl
behind_skips test (c ∷ cs) rest all = let p = and_parts (test c) (list_all test cs) all in rw p.0 (behind_skips test cs rest p.1)

behind_none : (test : ℕ → Bool) (rest : List ℕ) → BeginsWithout test rest → behind test rest ≡ rest
behind_none test [] n = refl
behind_none test (b ∷ bs) n = rw n refl

pub behind_of : (test : ℕ → Bool) (front rest : List ℕ) → list_all test front ≡ true → BeginsWithout test rest
    → behind test (front ++ rest) ≡ rest
behind_of test front rest all n = behind_skips test front rest all ∙ behind_none test rest n

all_if : (test : ℕ → Bool) (t : Bool) (b : ℕ) (bs : List ℕ) → test b ≡ t → list_all test bs ≡ true
    → list_all test (cond t (b ∷ bs) []) ≡ true
all_if test true b bs e h = rw (e, h) refl
all_if test false b bs e h = refl

parts_if : (t : Bool) (b : ℕ) (bs front rest : List ℕ) → front ++ rest ≡ bs → cond t (b ∷ front) [] ++ cond t rest (b ∷ bs) ≡ b ∷ bs
parts_if true b bs front rest h = ap (λ (l : List ℕ). b ∷ l) h
parts_if false b bs front rest h = refl

shorter_if : (t : Bool) (b : ℕ) (bs rest : List ℕ) → length rest ≤ length bs → length (cond t rest (b ∷ bs)) ≤ length (b ∷ bs)
shorter_if true b bs rest h = omega (arith, h)
shorter_if false b bs rest h = omega arith

pub leading_passes : (test : ℕ → Bool) (bytes : List ℕ) → list_all test (leading test bytes) ≡ true
leading_passes test [] = refl
leading_passes test (b ∷ bs) = all_if test (test b) b (leading test bs) refl (leading_passes test bs)

pub leading_and_behind : (test : ℕ → Bool) (bytes : List ℕ) → leading test bytes ++ behind test bytes ≡ bytes
leading_and_behind test [] = refl
leading_and_behind test (b ∷ bs) = parts_if (test b) b bs (leading test bs) (behind test bs) (leading_and_behind test bs)

pub length-behind : (test : ℕ → Bool) (bytes : List ℕ) → length (behind test bytes) ≤ length bytes
length-behind test [] = omega arith
length-behind test (b ∷ bs) = shorter_if (test b) b bs (behind test bs) (length-behind test bs)

behind_if : (test : ℕ → Bool) (t : Bool) (b n : ℕ) (bs rest : List ℕ) → test b ≡ t
    → b ∷ bs ≡ take (suc n) (cond t (b ∷ leading test bs) []) ++ rest
    → ((more : List ℕ) → bs ≡ take n (leading test bs) ++ more → behind test more ≡ behind test bs)
    → behind test rest ≡ cond t (behind test bs) (b ∷ bs)
behind_if test true b n bs rest is split below = below rest cc
behind_if test false b n bs rest is split below = ap (behind test) (sym split) ∙ rw is refl

-- behind some of the front stands what stands behind all of it
pub behind_some : (test : ℕ → Bool) (n : ℕ) (bytes rest : List ℕ) → bytes ≡ take n (leading test bytes) ++ rest
    → behind test rest ≡ behind test bytes
behind_some test zero bytes rest split = ap (behind test) (sym split)
behind_some test (suc n) [] rest split = ap (behind test) (sym split)
behind_some test (suc n) (b ∷ bs) rest split = behind_if test (test b) b n bs rest refl split (λ more. behind_some test n bs more)

-- ---- digits

pub front_of : (digits rest : List ℕ) → AreDigits digits → NoDigitFirst rest → front_digits (digits ++ rest) ≡ digits
front_of digits rest d n = leading_of is_ascii_digit digits rest (all_from_digits digits d) n

pub after_of : (digits rest : List ℕ) → AreDigits digits → NoDigitFirst rest → after_digits (digits ++ rest) ≡ rest
after_of digits rest d n = behind_of is_ascii_digit digits rest (all_from_digits digits d) n

pub front_are_digits : (bytes : List ℕ) → AreDigits (front_digits bytes)
front_are_digits bytes = digits_from_all (front_digits bytes) (leading_passes is_ascii_digit bytes)

pub front_and_after : (bytes : List ℕ) → front_digits bytes ++ after_digits bytes ≡ bytes
front_and_after bytes = leading_and_behind is_ascii_digit bytes
