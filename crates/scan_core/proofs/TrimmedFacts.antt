-- Digits without the zeros at their end: zeros fill them up to all the digits, and as a fraction they are the same number.
use Rattle.std.proofs.Common.{◌≡◌, ◌≢◌, ℕ, zero, suc, ◌+◌, ◌-◌, ◌*◌, ◌/◌, ◌%◌, ◌^◌, ◌<◌, ◌==◌, inl, inr, Bool, true, false, cond, List, []}
use Rattle.std.proofs.Common.{◌∷◌, ◌++◌, length, replicate, append-nil, refl, sym, ◌∙◌, ap, subst, arith}
use Rattle.std.proofs.Math.Nat.{div-div-eq-div-mul, mul-div_cancel_left, pow-suc}
use Rattle.std.proofs.lemmas.Bool.{cases_lt, eqb-true}
use Rattle.std.proofs.lemmas.Bool.Decides.{nat_tests}
use Rattle.std.proofs.lemmas.List.{length_push}
use Rattle.scan_core.specs.Digits.{AreDigits, number_of}
use Rattle.scan_core.specs.Padded.{padded_digits, onto_trimmed, trimmed_digits}
use Rattle.scan_core.specs.Shares.{rounded}
use Rattle.scan_core.proofs.DigitFacts.{digits_left, number_of-append, number_of-zeros}
use Rattle.scan_core.proofs.PaddedFacts.{number_of-padded, padded_more, padded_digit}

-- ---- a digit at the end

pub trimmed_zero : (xs : List ℕ) → trimmed_digits (xs ++ (48 ∷ [])) ≡ trimmed_digits xs
trimmed_zero [] = refl
trimmed_zero (x ∷ xs) = rw (trimmed_zero xs) refl

onto_some : (x : ℕ) (ys : List ℕ) → 0 < length ys → onto_trimmed x ys ≡ x ∷ ys
onto_some x [] h = absurd (omega arith)
onto_some x (y ∷ ys) h = refl

some_behind : (xs : List ℕ) (c : ℕ) → 0 < length (xs ++ (c ∷ []))
some_behind [] c = omega arith
some_behind (x ∷ xs) c = omega arith

pub trimmed_none : (xs : List ℕ) (c : ℕ) → (c == 48) ≡ false → trimmed_digits (xs ++ (c ∷ [])) ≡ xs ++ (c ∷ [])
trimmed_none [] c h = rw h refl
trimmed_none (x ∷ xs) c h = rw (trimmed_none xs c h) (onto_some x (xs ++ (c ∷ [])) (some_behind xs c))

not_zero : (d : ℕ) → d ≢ 0 → (48 + d == 48) ≡ false
not_zero d h = grind (arith, nat_tests)

-- ---- a number's digits

-- a zero is dropped from the end
pub zero_dropped : (width n : ℕ) → 0 < n → n < 2 ^ 64 → n % 10 ≡ 0
    → (trimmed_digits (padded_digits width n) ≡ trimmed_digits (padded_digits (width - 1) (n / 10)))
    × (length (padded_digits width n) ≡ length (padded_digits (width - 1) (n / 10)) + 1)
zero_dropped width n some fits none =
    let split = padded_more width n (omega (arith, some, none)) fits in
    let last = rw none at split in (
      ap trimmed_digits last ∙ trimmed_zero (padded_digits (width - 1) (n / 10)),
      ap length last
          ∙ length_push (padded_digits (width - 1) (n / 10)) 48,
    )

-- the digits are kept where the last is no zero
pub kept : (width n : ℕ) → n < 2 ^ 64 → n % 10 ≢ 0 → trimmed_digits (padded_digits width n) ≡ padded_digits width n
kept width n fits h =
    elim (cases_lt n 10) [
      | inr ten ↦
          let split = padded_more width n ten fits in
          ap trimmed_digits split ∙ trimmed_none (padded_digits (width - 1) (n / 10)) (48 + n % 10) (not_zero (n % 10) h) ∙ sym split
      | inl small ↦
          let last : n % 10 ≡ n = omega (arith, small) in
          let split = padded_digit width n small in
          ap trimmed_digits split ∙ trimmed_none (replicate (width - 1) 48) (48 + n) (not_zero n (rw last at h)) ∙ sym split
    ]

trimmed_zeros : (k : ℕ) → trimmed_digits (replicate k 48) ≡ []
trimmed_zeros zero = refl
trimmed_zeros (suc k) = rw (trimmed_zeros k) refl

-- nothing is left of zero
pub trimmed_nothing : (width : ℕ) → trimmed_digits (padded_digits width 0) ≡ []
trimmed_nothing width = ap trimmed_digits (padded_digit width 0 (omega arith)) ∙ trimmed_zero (replicate (width - 1) 48)
    ∙ trimmed_zeros (width - 1)

-- ---- zeros fill up the digits

-- a text that zeros fill up to the digits
abbrev pub Fills : List ℕ → List ℕ → Type 0
Fills text digits = (k : ℕ) × (digits ≡ text ++ replicate k 48)

alone_if : (t : Bool) (b k : ℕ) (bs : List ℕ) → (t ≡ true → b ≡ 48) → bs ≡ replicate k 48 → Fills (cond {A = List ℕ} t [] (b ∷ [])) (b ∷ bs)
alone_if true b k bs is e = (suc k, rw (is refl, e) refl)
alone_if false b k bs is e = (k, rw e refl)

onto_fills : (b k : ℕ) (front bs : List ℕ) → bs ≡ front ++ replicate k 48 → Fills (onto_trimmed b front) (b ∷ bs)
onto_fills b k [] bs e = alone_if (b == 48) b k bs (eqb-true b 48) e
onto_fills b k (c ∷ cs) bs e = (k, ap (λ (l : List ℕ). b ∷ l) e)

pub trimmed_fills : (ds : List ℕ) → Fills (trimmed_digits ds) ds
trimmed_fills [] = (0, refl)
trimmed_fills (b ∷ bs) = let r = trimmed_fills bs in onto_fills b r.0 (trimmed_digits bs) bs r.1

pub digits-trimmed : (ds : List ℕ) → AreDigits ds → AreDigits (trimmed_digits ds)
digits-trimmed ds are = let fills = trimmed_fills ds in digits_left (trimmed_digits ds) (replicate fills.0 48) (subst AreDigits fills.1 are)

some_left : (n k : ℕ) (text ds : List ℕ) → number_of ds ≡ n → 0 < n → ds ≡ text ++ replicate k 48 → 0 < length text
some_left n k [] ds is some e =
    let none : number_of (replicate k 48) ≡ 0 = ap number_of (sym (append-nil (replicate k 48))) ∙ number_of-zeros k [] in
    absurd (let zero_is = sym is ∙ ap number_of e ∙ none in omega (arith, zero_is, some))
some_left n k (b ∷ bs) ds is some e = omega arith

-- a digit is left of a number that isn't 0
pub trimmed_some : (width n : ℕ) → 0 < n → n < 2 ^ 64 → 0 < length (trimmed_digits (padded_digits width n))
trimmed_some width n some fits =
    let fills = trimmed_fills (padded_digits width n) in
    some_left n fills.0 (trimmed_digits (padded_digits width n)) (padded_digits width n) (number_of-padded width n fits) some fills.1

-- ---- as a fraction they are the same

tens : (v s p : ℕ) → (2 * (v * 10) * s + p * 10) / (2 * (p * 10)) ≡ (2 * v * s + p) / (2 * p)
tens v s p =
    let over : 2 * (v * 10) * s + p * 10 ≡ 10 * (2 * v * s + p) = omega arith in
    let under : 2 * (p * 10) ≡ 10 * (2 * p) = omega arith in
    rw (over, under) (sym (div-div-eq-div-mul (10 * (2 * v * s + p)) 10 (2 * p))
    ∙ ap (λ (x : ℕ). x / (2 * p)) (mul-div_cancel_left (2 * v * s + p) (omega arith)))

rounded-zero_behind : (scale : ℕ) (ds : List ℕ) → rounded scale (ds ++ (48 ∷ [])) ≡ rounded scale ds
unfolding rounded
rounded-zero_behind scale ds =
    let number : number_of (ds ++ (48 ∷ [])) ≡ number_of ds * 10 = number_of-append ds (48 ∷ []) ∙ omega arith in
    let longer : length (ds ++ (48 ∷ [])) ≡ suc (length ds) = omega (arith, length_push ds 48) in
    let power : 10 ^ length (ds ++ (48 ∷ [])) ≡ 10 ^ length ds * 10 = ap (λ (k : ℕ). 10 ^ k) longer ∙ pow-suc 10 (length ds) in
    rw (number, power) (tens (number_of ds) scale (10 ^ length ds))

zeros_turned : (k : ℕ) (ds : List ℕ) → ds ++ replicate (suc k) 48 ≡ (ds ++ (48 ∷ [])) ++ replicate k 48
zeros_turned k [] = refl
zeros_turned k (d ∷ ds) = ap (λ (l : List ℕ). d ∷ l) (zeros_turned k ds)

rounded-zeros : (scale k : ℕ) (ds : List ℕ) → rounded scale (ds ++ replicate k 48) ≡ rounded scale ds
rounded-zeros scale zero ds = ap (rounded scale) (append-nil ds)
rounded-zeros scale (suc k) ds = ap (rounded scale) (zeros_turned k ds) ∙ rounded-zeros scale k (ds ++ (48 ∷ []))
    ∙ rounded-zero_behind scale ds

pub rounded-trimmed : (scale : ℕ) (ds : List ℕ) → rounded scale (trimmed_digits ds) ≡ rounded scale ds
rounded-trimmed scale ds =
    let fills = trimmed_fills ds in
    sym (ap (rounded scale) fills.1 ∙ rounded-zeros scale fills.0 (trimmed_digits ds))
