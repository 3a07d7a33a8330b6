-- Fractions cut and rounded: one more digit in front, no digits, six digits, and the greatest answer.
use Rattle.std.proofs.Common.{◌≡◌, ℕ, ◌+◌, ◌*◌, ◌/◌, ◌^◌, ◌<◌, ◌≤◌, List, [], ◌∷◌, length, ap, ap₂, refl, sym, ◌∙◌, arith}
use Rattle.std.proofs.Math.Nat.{add-mul-div_right, div-div-eq-div-mul, mul-div_cancel_left, mul-le-mul_right, one-le-pow, pow-suc}
use Rattle.std.proofs.lemmas.List.{nil_from_length}
use Rattle.std.proofs.lemmas.Nat.{div-mul-add, div_below}
use Rattle.std.specs.Char.{digit_value}
use Rattle.scan_core.specs.Digits.{AreDigits, number_of}
use Rattle.scan_core.specs.Shares.{rounded}
use Rattle.scan_core.proofs.DigitFacts.{number_of-cons, number_of-lt}

pub power-pos : (n : ℕ) → 0 < 10 ^ n
power-pos n = one-le-pow n 10 (omega arith)

-- a whole part d passes through a quotient, and then a quotient by ten is taken
tenth : (d q p : ℕ) → 0 < p → (q + d * p) / (p * 10) ≡ (d + q / p) / 10
tenth d q p h =
    sym (div-div-eq-div-mul (q + d * p) p 10)
    ∙ ap (λ (x : ℕ). x / 10) (add-mul-div_right q d h ∙ omega arith)

-- the fraction below its digits in the next smaller unit, cut
pub cut-cons : (scale d : ℕ) (ds : List ℕ)
    → number_of (d ∷ ds) * scale / 10 ^ length (d ∷ ds) ≡ (digit_value d * scale + number_of ds * scale / 10 ^ length ds) / 10
cut-cons scale d ds =
    let v = digit_value d in
    let p = 10 ^ length ds in
    let e : number_of (d ∷ ds) * scale ≡ number_of ds * scale + v * scale * p = rw (number_of-cons d ds) (omega arith) in
    rw (e, pow-suc 10 (length ds)) (tenth (v * scale) (number_of ds * scale) p (power-pos (length ds)))

pub cut-le : (scale : ℕ) (ds : List ℕ) → AreDigits ds → number_of ds * scale / 10 ^ length ds ≤ scale
cut-le scale ds all =
    let p = 10 ^ length ds in
    let few = mul-le-mul_right scale (number_of-lt ds all) in
    let below : number_of ds * scale / p < scale + 1 = div_below (number_of ds * scale) p (scale + 1) (power-pos (length ds))
    (omega (arith, power-pos (length ds))) in
    omega arith

-- what a step of the carry holds fits 64 bits
pub step-small : (v scale carry : ℕ) → v < 10 → scale ≤ 1_000_000 → carry ≤ scale → v * scale + carry + 5 < 2 ^ 64
step-small v scale carry digit small below = omega (arith, mul-le-mul_right scale digit)

-- the half is added before the last quotient by ten
half_up : (v k n p : ℕ) → 0 < p → (2 * (v * p + n) * k + p * 10) / (2 * (p * 10)) ≡ (v * k + n * k / p + 5) / 10
half_up v k n p h =
    let whole : 2 * (v * p + n) * k + p * 10 ≡ 2 * (n * k + (v * k + 5) * p) = omega arith in
    ap (λ (x : ℕ). x / (2 * (p * 10))) whole
    ∙ sym (div-div-eq-div-mul (2 * (n * k + (v * k + 5) * p)) 2 (p * 10))
    ∙ ap (λ (x : ℕ). x / (p * 10)) (mul-div_cancel_left (n * k + (v * k + 5) * p) (omega arith))
    ∙ tenth (v * k + 5) (n * k) p h
    ∙ ap (λ (x : ℕ). x / 10) (omega arith)

-- the same fraction, rounded
pub rounded-cons : (scale d : ℕ) (ds : List ℕ)
    → rounded scale (d ∷ ds) ≡ (digit_value d * scale + number_of ds * scale / 10 ^ length ds + 5) / 10
unfolding rounded
rounded-cons scale d ds =
    ap₂ (λ (n p : ℕ). (2 * n * scale + p) / (2 * p)) (number_of-cons d ds) (pow-suc 10 (length ds))
    ∙ half_up (digit_value d) scale (number_of ds) (10 ^ length ds) (power-pos (length ds))

pub rounded-nil : (scale : ℕ) → rounded scale [] ≡ 0
unfolding rounded
rounded-nil scale = let none : 0 * scale ≡ 0 = omega arith in ap (λ (x : ℕ). (x + 1) / 2) none

-- the same from the number of the digits and how many they are
pub rounded_is : (scale : ℕ) (ds : List ℕ) (number digits : ℕ) → number_of ds ≡ number → length ds ≡ digits
    → (2 * number * scale + 10 ^ digits) / (2 * 10 ^ digits) ≡ rounded scale ds
unfolding rounded
rounded_is scale ds number digits n d = rw (← n, ← d) refl

-- a fraction without digits
pub rounded_none : (scale : ℕ) (ds : List ℕ) → length ds ≡ 0 → 0 ≡ rounded scale ds
rounded_none scale ds none = sym (ap (rounded scale) (nil_from_length ds none) ∙ rounded-nil scale)

pub rounded-le : (scale : ℕ) (ds : List ℕ) → AreDigits ds → rounded scale ds ≤ scale
unfolding rounded
rounded-le scale ds all =
    let p = 10 ^ length ds in
    let few = mul-le-mul_right scale (number_of-lt ds all) in
    let below : (2 * number_of ds * scale + p) / (2 * p) < scale
    + 1 = div_below (2 * number_of ds * scale + p) (2 * p) (scale + 1) (omega (arith, power-pos (length ds)))
    (omega (arith, power-pos (length ds))) in
    omega arith

pub rounded_six : (ds : List ℕ) → length ds ≡ 6 → rounded 1_000_000 ds ≡ number_of ds
unfolding rounded
rounded_six ds six =
    ap (λ (n : ℕ). (2 * number_of ds * 1_000_000 + 10 ^ n) / (2 * 10 ^ n)) six
    ∙ ap (λ (x : ℕ). x / 2_000_000) (omega arith)
    ∙ div-mul-add (number_of ds) 2_000_000 1_000_000 (omega arith)
