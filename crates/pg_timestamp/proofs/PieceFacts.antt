-- A mark and two digits, a year and an era: their places in front of a text, and that a piece is one number.
use Rattle.std.proofs.Common.{◌≡◌, ℕ, ◌+◌, ◌*◌, ◌<◌, ◌≤◌, Bool, true, false, List, [], ◌∷◌, ◌++◌, length, get_or, take, drop, refl, sym}
use Rattle.std.proofs.Common.{◌∙◌, ap, subst, arith}
use Rattle.std.specs.Char.{digit_value}
use Rattle.scan_core.specs.Digits.{AreDigits, number_of}
use Rattle.scan_core.specs.Fronts.{NoDigitFirst}
use Rattle.pg_timestamp.specs.Pieces.{IsMarkedPair, era_text}
use Rattle.pg_timestamp.specs.inside.Places.{has_first}
use Rattle.std.proofs.lemmas.Bool.Decides.{nat_tests}

-- a field of two digits by its bytes
two_bytes : (pair : List ℕ) → length pair ≡ 2 → (a : ℕ) × (b : ℕ) × (pair ≡ a ∷ b ∷ [])
two_bytes [] h = absurd (omega (arith, h))
two_bytes (a ∷ []) h = absurd (omega (arith, h))
two_bytes (a ∷ b ∷ []) h = (a, b, refl)
two_bytes (a ∷ b ∷ c ∷ more) h = absurd (omega (arith, h))

pub marked_made : (mark lo hi a b n : ℕ) → digit_value a < 10 → digit_value b < 10 → n ≡ digit_value a * 10 + digit_value b → lo ≤ n
    → n ≤ hi
    → IsMarkedPair mark lo hi (mark ∷ a ∷ b ∷ []) n
marked_made mark lo hi a b n da db is least most = (
  a ∷ b ∷ [],
  record { long = refl; digits = (da, (db, tt)); number = is ∙ omega arith; least = least; most = most },
  refl,
)

pub record AreMarkedParts (mark lo hi m a b n : ℕ) : Type 0 where
  pub head : m ≡ mark
  pub first : digit_value a < 10
  pub last : digit_value b < 10
  pub number : n ≡ digit_value a * 10 + digit_value b
  pub least : lo ≤ n
  pub most : n ≤ hi

pub marked_parts : (mark lo hi m a b n : ℕ) → IsMarkedPair mark lo hi (m ∷ a ∷ b ∷ []) n → AreMarkedParts mark lo hi m a b n
marked_parts mark lo hi m a b n (pair, field, joined) =
    let head : m ≡ mark = cc in
    let tail : pair ≡ a ∷ b ∷ [] = cc in
    let digits = subst AreDigits tail field.digits in
    let number : n ≡ number_of (a ∷ b ∷ []) = field.number ∙ ap number_of tail in
    record { head = head; first = digits.0; last = digits.1.0; number = number ∙ omega arith; least = field.least; most = field.most }

pub first_three : (text : List ℕ) → 3 ≤ length text → take 3 text ≡ get_or text 0 0 ∷ get_or text 1 0 ∷ get_or text 2 0 ∷ []
first_three [] h = absurd (omega (arith, h))
first_three (a ∷ []) h = absurd (omega (arith, h))
first_three (a ∷ b ∷ []) h = absurd (omega (arith, h))
first_three (a ∷ b ∷ c ∷ more) h = refl

-- a piece in front is the first three bytes
pub front_three : (mark lo hi : ℕ) (piece rest : List ℕ) (n : ℕ) → IsMarkedPair mark lo hi piece n → (take 3 (piece ++ rest) ≡ piece)
    × (drop 3 (piece ++ rest) ≡ rest)
front_three mark lo hi piece rest n (pair, field, joined) =
    let bytes = two_bytes pair field.long in
    let is : piece ≡ mark ∷ bytes.0 ∷ bytes.1 ∷ [] = joined ∙ ap (λ (l : List ℕ). mark ∷ l) bytes.2 in
    rw is (refl, refl)

-- the number behind a mark, whichever it is
pub one_number : (mark other lo hi : ℕ) (piece : List ℕ) (m n : ℕ) → IsMarkedPair mark lo hi piece m → IsMarkedPair other lo hi piece n → m ≡ n
one_number mark other lo hi piece m n (p, f, j) (q, g, k) =
    let same : p ≡ q = cc in
    f.number ∙ ap number_of same ∙ sym g.number

pub hyphen_no_digit : (lo hi : ℕ) (piece rest : List ℕ) (n : ℕ) → IsMarkedPair 45 lo hi piece n → NoDigitFirst (piece ++ rest)
hyphen_no_digit lo hi piece rest n (pair, field, joined) = rw joined refl

pub one_era : (a b : Bool) → era_text a ≡ era_text b → a ≡ b
one_era true true h = refl
one_era false false h = refl
one_era true false h = absurd cc
one_era false true h = absurd cc

pub first_is : (mark lo hi n : ℕ) (text : List ℕ) → IsMarkedPair mark lo hi (take 3 text) n → has_first mark text ≡ true
first_is mark lo hi n [] (p, f, j) = absurd cc
first_is mark lo hi n (b ∷ bs) (p, f, j) = let same : b ≡ mark = cc in rw same (grind (arith, nat_tests))
