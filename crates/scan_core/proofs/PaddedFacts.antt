-- Digits with leading zeros: how many they are, the number that they write, and their last digit.
use Rattle.std.proofs.Common.{◌≡◌, ℕ, zero, suc, ◌+◌, ◌-◌, ◌/◌, ◌%◌, ◌^◌, ◌<◌, ◌≤◌, inl, inr, List, [], ◌∷◌, ◌++◌, length, decimal}
use Rattle.std.proofs.Common.{replicate, max, append_assoc, length-append, arith, refl, sym, ap, ap₂, ◌∙◌}
use Rattle.std.proofs.lemmas.Fmt.{decimal_digit, decimal_step, decimal_nonempty, length-decimal-le}
use Rattle.std.proofs.lemmas.Bool.{cases_lt}
use Rattle.std.proofs.lemmas.List.{length_push}
use Rattle.scan_core.specs.Digits.{AreDigits, number_of}
use Rattle.scan_core.specs.Fields.{IsField}
use Rattle.scan_core.specs.Padded.{padded_digits}
use Rattle.scan_core.proofs.DigitFacts.{digits-append, digits-zeros, number_of-zeros, digits_decimal, number_of-decimal}

pub length-zeros : (n : ℕ) → length {A = ℕ} (replicate n 48) ≡ n
length-zeros zero = refl
length-zeros (suc n) = ap suc (length-zeros n)

pub length-padded : (width n : ℕ) → length (padded_digits width n) ≡ max width (length (decimal n))
length-padded width n =
    omega (arith, length-append (replicate (width - length (decimal n)) 48) (decimal n), length-zeros (width - length (decimal n)))

pub digits-padded : (width n : ℕ) → n < 2 ^ 64 → AreDigits (padded_digits width n)
digits-padded width n small = digits-append (replicate (width - length (decimal n)) 48) (decimal n)
    (digits-zeros (width - length (decimal n))) (digits_decimal n small)

pub number_of-padded : (width n : ℕ) → n < 2 ^ 64 → number_of (padded_digits width n) ≡ n
number_of-padded width n small = number_of-zeros (width - length (decimal n)) (decimal n) ∙ number_of-decimal n small

pub padded_some : (width n : ℕ) → n < 2 ^ 64 → 0 < length (padded_digits width n)
padded_some width n fits = let some = decimal_nonempty n fits in omega (arith, length-padded width n, some)

-- a number of at most this many digits is written in just as many, a field
pub padded_field : (count lo hi n : ℕ) → 0 < count → n < 10 ^ count → n < 2 ^ 64 → lo ≤ n → n ≤ hi
    → IsField count lo hi (padded_digits count n) n
padded_field count lo hi n some short fits least most =
    record {
      long = omega (arith, length-padded count n, length-decimal-le count n some short fits);
      digits = digits-padded count n fits;
      number = sym (number_of-padded count n fits);
      least = least;
      most = most;
    }

-- ---- numbers that fill their width

pub padded_full : (width n : ℕ) → width ≤ length (decimal n) → padded_digits width n ≡ decimal n
padded_full width n full = let none : width - length (decimal n) ≡ 0 = omega (arith, full) in rw none refl

-- a number from 10 on has two digits or more
pub two_or_more : (n : ℕ) → 10 ≤ n → n < 2 ^ 64 → 2 ≤ length (decimal n)
two_or_more n ten fits =
    let some = decimal_nonempty (n / 10) (omega (arith, fits)) in
    omega (arith, some, ap length (decimal_step n ten fits) ∙ length_push (decimal (n / 10)) (48 + n % 10))

-- ---- the last digit

-- a number from 10 on: its last digit, behind all others in a width less by one
pub padded_more : (width n : ℕ) → 10 ≤ n → n < 2 ^ 64 → padded_digits width n ≡ padded_digits (width - 1) (n / 10) ++ ((48 + n % 10) ∷ [])
padded_more width n ten fits =
    let step = decimal_step n ten fits in
    let long = ap length step ∙ length_push (decimal (n / 10)) (48 + n % 10) in
    let zeros : width - length (decimal n) ≡ (width - 1) - length (decimal (n / 10)) = omega (arith, long) in
    rw (zeros, step) (sym (append_assoc (replicate ((width - 1) - length (decimal (n / 10))) 48) (decimal (n / 10)) ((48 + n % 10) ∷ [])))

-- a digit alone stands behind zeros
pub padded_digit : (width n : ℕ) → n < 10 → padded_digits width n ≡ replicate (width - 1) 48 ++ ((48 + n) ∷ [])
padded_digit width n h = rw (decimal_digit n h) refl

zeros_more : (k : ℕ) → replicate {A = ℕ} (suc k) 48 ≡ replicate k 48 ++ (48 ∷ [])
zeros_more zero = refl
zeros_more (suc k) = ap (λ (l : List ℕ). 48 ∷ l) (zeros_more k)

zeros_last : (k : ℕ) → 0 < k → replicate {A = ℕ} k 48 ≡ replicate (k - 1) 48 ++ (48 ∷ [])
zeros_last zero h = absurd (omega arith)
zeros_last (suc k) h = let same : k ≡ suc k - 1 = omega arith in zeros_more k ∙ ap (λ (m : ℕ). replicate m 48 ++ (48 ∷ [])) same

small_last : (width n : ℕ) → 1 < width → n < 10 → padded_digits width n ≡ padded_digits (width - 1) 0 ++ ((48 + n) ∷ [])
small_last width n w h = padded_digit width n h ∙ ap (λ (l : List ℕ). l ++ ((48 + n) ∷ []))
    (zeros_last (width - 1) (omega (arith, w)) ∙ sym (padded_digit (width - 1) 0 (omega arith)))

-- in a width above one, the digits of a number are those of its tenth, and its last digit
pub padded_last : (width n : ℕ) → 1 < width → n < 2 ^ 64 → padded_digits width n ≡ padded_digits (width - 1) (n / 10)
    ++ ((48 + n % 10) ∷ [])
padded_last width n w fits =
    elim (cases_lt n 10) [
      | inr ten ↦ padded_more width n ten fits
      | inl small ↦
          let tenth : n / 10 ≡ 0 = omega (arith, small) in
          let last : n % 10 ≡ n = omega (arith, small) in
          small_last width n w small ∙ ap₂ (λ (t d : ℕ). padded_digits (width - 1) t ++ ((48 + d) ∷ [])) (sym tenth) (sym last)
    ]

pub padded_two : (n : ℕ) → n < 100 → padded_digits 2 n ≡ (48 + n / 10 % 10) ∷ ((48 + n % 10) ∷ [])
padded_two n h =
    let tens : n / 10 ≡ n / 10 % 10 = omega (arith, h) in
    padded_last 2 n (omega arith) (omega (arith, h))
    ∙ ap (λ (l : List ℕ). l ++ ((48 + n % 10) ∷ [])) (padded_digit 1 (n / 10) (omega (arith, h)) ∙ ap (λ (t : ℕ). (48 + t) ∷ []) tens)

-- in a width above two, the digits of a number are those of its hundredth, and its last two digits
pub padded_pair : (width n : ℕ) → 2 < width → n < 2 ^ 64 → padded_digits width n ≡ padded_digits (width - 2) (n / 100)
    ++ padded_digits 2 (n % 100)
padded_pair width n w fits =
    let tens : n % 100 / 10 % 10 ≡ n / 10 % 10 = omega arith in
    let ones : n % 100 % 10 ≡ n % 10 = omega arith in
    let hundredth : n / 10 / 10 ≡ n / 100 = omega arith in
    let narrower : (width - 1) - 1 ≡ width - 2 = omega arith in
    let pair : padded_digits 2 (n % 100) ≡ (48 + n / 10 % 10) ∷ ((48 + n % 10) ∷ []) = padded_two (n % 100) (omega arith)
    ∙ ap₂ (λ (t d : ℕ). (48 + t) ∷ ((48 + d) ∷ [])) tens ones in
    let front : padded_digits (width - 1) (n / 10) ≡ padded_digits (width - 2) (n / 100)
    ++ ((48 + n / 10 % 10) ∷ []) = padded_last (width - 1) (n / 10) (omega (arith, w)) (omega (arith, fits))
    ∙ ap₂ (λ (k t : ℕ). padded_digits k t ++ ((48 + n / 10 % 10) ∷ [])) narrower hundredth in
    padded_last width n (omega (arith, w)) fits
    ∙ ap (λ (l : List ℕ). l ++ ((48 + n % 10) ∷ [])) front
    ∙ append_assoc (padded_digits (width - 2) (n / 100)) ((48 + n / 10 % 10) ∷ []) ((48 + n % 10) ∷ [])
    ∙ ap (λ (l : List ℕ). padded_digits (width - 2) (n / 100) ++ l) (sym pair)
