-- Slashes in lines, and the parts of a request.
use Rattle.std.proofs.Common.{◌≡◌, ◌==◌, ℕ, ◌<◌, ◌≤◌, ◌^◌, false, List, [], ◌∷◌, ◌++◌, length, codes, refl, sym, ◌∙◌, ap, ap₂, subst}
use Rattle.std.proofs.Common.{get_or, drop, decimal, arith}
use Rattle.std.proofs.lemmas.Bool.Decides.{nat_tests}
use Rattle.std.proofs.lemmas.Fmt.{length-decimal-le}
use Rattle.std.specs.Char.{digit_value}
use Rattle.scan_core.specs.Digits.{AreDigits}
use Rattle.whole_input.specs.Parts.{HasNo}
use Rattle.recurrence.specs.Requests.{HasParts}

-- ---- a text up to a byte

no_hit : (byte mark : ℕ) → (byte == mark) ≡ false → mark ≡ byte → ⊥
no_hit byte mark h e = grind (arith, nat_tests)

-- a byte that a text has not doesn't split it
pub unsplit : (mark : ℕ) (text front back : List ℕ) → HasNo mark text → text ≡ front ++ (mark ∷ back) → ⊥
unsplit mark text front back h e = inside front (subst (HasNo mark) e h) where
  inside : (front : List ℕ) → HasNo mark (front ++ (mark ∷ back)) → ⊥
  inside [] h = no_hit mark mark h.0 refl
  inside (byte ∷ front) h = inside front h.1

-- a text is split at the first such byte in one way
pub one_split : (mark : ℕ) (front back front₂ back₂ : List ℕ) → HasNo mark front → HasNo mark front₂
    → front ++ (mark ∷ back) ≡ front₂ ++ (mark ∷ back₂) → (front ≡ front₂) × (back ≡ back₂)
one_split mark [] back [] back₂ h k e = (refl, ap (λ (l : List ℕ). drop 1 l) e)
one_split mark [] back (byte ∷ front₂) back₂ h k e = absurd (no_hit byte mark k.0 (ap (λ (l : List ℕ). get_or l 0 0) e))
one_split mark (byte ∷ front) back [] back₂ h k e = absurd (no_hit byte mark h.0 (sym (ap (λ (l : List ℕ). get_or l 0 0) e)))
one_split mark (byte ∷ front) back (byte₂ ∷ front₂) back₂ h k e =
    let rest = one_split mark front back front₂ back₂ h.1 k.1 (ap (λ (l : List ℕ). drop 1 l) e) in
    (ap₂ (λ (b : ℕ) (l : List ℕ). b ∷ l) (ap (λ (l : List ℕ). get_or l 0 0) e) rest.0, rest.1)

-- ---- parts

digit_no_slash : (b : ℕ) → digit_value b < 10 → (b == 47) ≡ false
digit_no_slash b h = grind (arith, nat_tests)

pub digits_no_slash : (bytes : List ℕ) → AreDigits bytes → HasNo 47 bytes
digits_no_slash [] h = tt
digits_no_slash (b ∷ bs) h = (digit_no_slash b h.0, digits_no_slash bs h.1)

-- what follows the `R`
pub same_rest : (text rest digits start step : List ℕ) → text ≡ codes "R" ++ rest → HasParts text digits start step
    → rest ≡ digits ++ (codes "/" ++ (start ++ (codes "/" ++ step)))
same_rest text rest digits start step e h = ap (λ (l : List ℕ). drop 1 l) (sym e ∙ h.joined)

-- a text has one digits, start and step
pub one_request : (text digits start step digits₂ start₂ step₂ : List ℕ) → HasParts text digits start step
    → HasParts text digits₂ start₂ step₂ → (digits ≡ digits₂) × (start ≡ start₂) × (step ≡ step₂)
one_request text digits start step digits₂ start₂ step₂ h k =
    let rests = same_rest text _ digits₂ start₂ step₂ h.joined k in
    let first = one_split 47 digits _ digits₂ _ (digits_no_slash digits h.digits_alone) (digits_no_slash digits₂ k.digits_alone) rests in
    let second = one_split 47 start step start₂ step₂ h.no_slash k.no_slash first.1 in
    (first.0, second.0, second.1)

pub short_decimal : (k : ℕ) → k < 2 ^ 32 → length (decimal k) ≤ 10
short_decimal k h = length-decimal-le 10 k (omega arith) (omega (arith, h)) (omega arith)
