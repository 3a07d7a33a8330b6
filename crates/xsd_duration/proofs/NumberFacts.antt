-- The number that digits write, cut to 64 bits, and the microseconds of few digits behind a point.
use Rattle.std.proofs.Common.{◌≡◌, ℕ, ◌+◌, ◌-◌, ◌*◌, ◌/◌, ◌^◌, ◌<◌, ◌≤◌, true, List, [], ◌∷◌, ◌++◌, length, refl, sym, ◌∙◌}
use Rattle.std.proofs.Common.{ap, append_assoc, arith, drop, get_or, take}
use Rattle.std.specs.Char.{is_ascii_digit}
use Rattle.std.proofs.lemmas.List.{drop_more, take_more}
use Rattle.scan_core.specs.Fronts.{front_digits, after_digits}
use Rattle.std.proofs.Math.Nat.{pow-le-pow_right}
use Rattle.scan_core.specs.Digits.{AreDigits, number_of}
use Rattle.scan_core.specs.Shares.{rounded}
use Rattle.scan_core.proofs.DigitFacts.{number_of-lt}
use Rattle.scan_core.proofs.RoundingFacts.{rounded_is}
use Rattle.xsd_duration.specs.inside.Numbers.{cut_number}

pub cut_below : (ds : List ℕ) → number_of ds < 2 ^ 64 → number_of ds ≡ cut_number ds
unfolding cut_number
cut_below ds h = omega (arith, h)

pub cut_above : (ds : List ℕ) → (number_of ds < 2 ^ 64 → ⊥) → 2 ^ 64 - 1 ≡ cut_number ds
unfolding cut_number
cut_above ds h = omega (arith, h)

-- a number that may be cut is no greater, and the number itself below the cut
pub record IsCut (value n : ℕ) : Type 0 where
  pub most : value ≤ n
  pub same : value < 2 ^ 64 - 1 → value ≡ n

pub cut_is : (ds : List ℕ) → IsCut (cut_number ds) (number_of ds)
unfolding cut_number
cut_is ds = record { most = omega arith; same = λ h. omega (arith, h) }

-- so many digits write a number below this power of ten
pub number_small : (k : ℕ) (ds : List ℕ) → AreDigits ds → length ds ≤ k → number_of ds < 10 ^ k
number_small k ds all few =
    let power = pow-le-pow_right {n = 10} (omega arith) {i = length ds} {j = k} few in
    omega (arith, number_of-lt ds all, power)

-- 18 digits or fewer are cut nowhere
pub cut_few : (ds : List ℕ) → AreDigits ds → length ds ≤ 18 → number_of ds ≡ cut_number ds
cut_few ds all few = cut_below ds (omega (arith, number_small 18 ds all few))

pub cut_small : (k : ℕ) (ds : List ℕ) → AreDigits ds → k ≤ 18 → length ds ≤ k → cut_number ds < 10 ^ k
cut_small k ds all most few =
    omega (arith, cut_few ds all (omega (arith, most, few)), number_small k ds all few)

-- where a digit more or less scales the number, nothing is rounded
pub scaled : (k m : ℕ) (ds : List ℕ) → AreDigits ds → k ≤ 18 → length ds ≡ k
    → ((n : ℕ) → (2 * n * 1_000_000 + 10 ^ k) / (2 * 10 ^ k) ≡ n * m) → cut_number ds * m ≡ rounded 1_000_000 ds
scaled k m ds all most long exact =
    rw (sym (cut_few ds all (omega (arith, most, long))))
    (sym (exact (number_of ds)) ∙ rounded_is 1_000_000 ds (number_of ds) k refl long)

-- ---- one more digit of the front

digit_first : (bytes : List ℕ) (d : ℕ) (rest : List ℕ) → bytes ≡ d ∷ rest → is_ascii_digit d ≡ true
    → (front_digits bytes ≡ d ∷ front_digits rest) × (after_digits bytes ≡ after_digits rest)
digit_first bytes d rest is digit = rw (is, digit) (refl, refl)

pub front_more : (bytes : List ℕ) (i : ℕ) → i < length bytes → is_ascii_digit (get_or bytes i 0) ≡ true
    → front_digits bytes ≡ take i bytes ++ front_digits (drop i bytes)
    → front_digits bytes ≡ take (i + 1) bytes ++ front_digits (drop (i + 1) bytes)
front_more bytes i h digit front =
    let d = get_or bytes i 0 in
    let first = digit_first (drop i bytes) d (drop (i + 1) bytes) (drop_more bytes i 0 h) digit in
    front ∙ ap (λ (l : List ℕ). take i bytes ++ l) first.0
    ∙ sym (append_assoc (take i bytes) (d ∷ []) (front_digits (drop (i + 1) bytes)))
    ∙ ap (λ (l : List ℕ). l ++ front_digits (drop (i + 1) bytes)) (sym (take_more bytes i 0 h))

pub after_more : (bytes : List ℕ) (i : ℕ) → i < length bytes → is_ascii_digit (get_or bytes i 0) ≡ true
    → after_digits bytes ≡ after_digits (drop i bytes) → after_digits bytes ≡ after_digits (drop (i + 1) bytes)
after_more bytes i h digit rest =
    rest ∙ (digit_first (drop i bytes) (get_or bytes i 0) (drop (i + 1) bytes) (drop_more bytes i 0 h) digit).1
