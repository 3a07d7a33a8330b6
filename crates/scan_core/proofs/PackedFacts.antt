-- Letters packed into one number, and modulo 2^64, which of eight letters or more has the last eight.
use Rattle.std.proofs.Common.{◌≡◌, ℕ, ◌+◌, ◌-◌, ◌*◌, ◌%◌, ◌^◌, ◌<◌, ◌≤◌, true, List, [], ◌∷◌, length, sym, ◌∙◌, ap, inl, inr, arith}
use Rattle.std.proofs.Math.Nat.{add-mul-mod_self_right, mod-add-mod, mod-eq_of_lt, mod-le, mul-le-mul_right, pow-le-pow_right, pow-suc}
use Rattle.std.proofs.lemmas.Bool.{and_parts, cases_lt}
use Rattle.std.proofs.lemmas.Bool.Decides.{nat_tests}
use Rattle.std.proofs.lemmas.Nat.{mul-mod_first, pow-add}
use Rattle.std.specs.Char.{is_ascii_alphabetic}
use Rattle.std.specs.List.{list_all}
use Rattle.scan_core.specs.Runs.{Knows, packed, packed_behind}

-- ---- how great packed letters are

pub letter_bounds : (c : ℕ) → is_ascii_alphabetic c ≡ true → (1 ≤ c) × (c < 256)
letter_bounds c h = grind (arith, nat_tests)

pub packed-ge : (n : ℕ) (xs : List ℕ) → n * 256 ^ length xs ≤ packed_behind n xs
packed-ge n [] = omega arith
packed-ge n (x ∷ xs) = let below = packed-ge (n * 256 + x) xs in rw (pow-suc 256 (length xs)) (omega (arith, below))

pub packed-lt : (n : ℕ) (xs : List ℕ) → list_all is_ascii_alphabetic xs ≡ true → packed_behind n xs < (n + 1) * 256 ^ length xs
packed-lt n [] all = omega arith
packed-lt n (x ∷ xs) all =
    let split = and_parts (is_ascii_alphabetic x) (list_all is_ascii_alphabetic xs) all in
    let below = packed-lt (n * 256 + x) xs split.1 in
    let small = mul-le-mul_right (256 ^ length xs) (letter_bounds x split.0).1 in
    rw (pow-suc 256 (length xs)) (omega (arith, below, small))

-- ---- packed letters modulo 2^64

-- one more letter
pub letter_modulo : (value n l : ℕ) → value ≡ n % 2 ^ 64 → (value * 256 % 2 ^ 64 + l) % 2 ^ 64 ≡ (n * 256 + l) % 2 ^ 64
letter_modulo value n l same =
    mod-add-mod (value * 256) (2 ^ 64) l ∙ (ap (λ (v : ℕ). (v * 256 + l) % 2 ^ 64) same
    ∙ (sym (mod-add-mod (n % 2 ^ 64 * 256) (2 ^ 64) l) ∙ (ap (λ (v : ℕ). (v + l) % 2 ^ 64) (mul-mod_first n 256 (2 ^ 64))
    ∙ mod-add-mod (n * 256) (2 ^ 64) l)))

-- the letters behind a number stand at its end
packed_apart : (n : ℕ) (xs : List ℕ) → packed_behind n xs ≡ packed xs + n * 256 ^ length xs
packed_apart n [] = omega arith
packed_apart n (x ∷ xs) =
    let one = packed_apart (n * 256 + x) xs in
    let none = packed_apart (0 * 256 + x) xs in
    rw (pow-suc 256 (length xs)) (omega (arith, one, none))

-- before eight letters one more is lost
first_lost : (x : ℕ) (xs : List ℕ) → 8 ≤ length xs → packed (x ∷ xs) % 2 ^ 64 ≡ packed xs % 2 ^ 64
first_lost x xs h =
    let apart = packed_apart (0 * 256 + x) xs in
    let long : length xs ≡ (length xs - 8) + 8 = omega (arith, h) in
    let power = ap (λ (n : ℕ). 256 ^ n) long ∙ pow-add 256 (length xs - 8) 8 in
    let split = rw power at apart in
    let all : packed (x ∷ xs) ≡ packed xs + x * 256 ^ (length xs - 8) * 2 ^ 64 = omega (arith, split) in
    ap (λ (n : ℕ). n % 2 ^ 64) all ∙ add-mul-mod_self_right (packed xs) (x * 256 ^ (length xs - 8)) (2 ^ 64)

-- and of just eight none is
eight_left : (x : ℕ) (xs : List ℕ) → list_all is_ascii_alphabetic (x ∷ xs) ≡ true → length xs ≡ 7 → 2 ^ 56 ≤ packed (x ∷ xs) % 2 ^ 64
eight_left x xs all h =
    let split = and_parts (is_ascii_alphabetic x) (list_all is_ascii_alphabetic xs) all in
    let x_bounds = letter_bounds x split.0 in
    let above = packed-ge (0 * 256 + x) xs in
    let below = packed-lt (0 * 256 + x) xs split.1 in
    let least = rw h at above in
    let most = rw h at below in
    let same = mod-eq_of_lt {n = packed (x ∷ xs)} {m = 2 ^ 64} (omega (arith, most, x_bounds.1)) in
    omega (arith, same, least, x_bounds.0)

many_left : (xs : List ℕ) → list_all is_ascii_alphabetic xs ≡ true → 8 ≤ length xs → 2 ^ 56 ≤ packed xs % 2 ^ 64
many_left [] all h = absurd (omega (arith, h))
many_left (x ∷ xs) all h =
    elim (cases_lt (length xs) 8) [
      | inl few ↦ eight_left x xs all (omega (arith, few, h))
      | inr many ↦
          let long : 8 ≤ length xs = omega (arith, many) in
          let rest = many_left xs (and_parts (is_ascii_alphabetic x) (list_all is_ascii_alphabetic xs) all).1 long in
          omega (arith, rest, first_lost x xs long)
    ]

-- the letters are known by them
pub packed_known : (xs : List ℕ) → list_all is_ascii_alphabetic xs ≡ true → Knows (2 ^ 56) (packed xs % 2 ^ 64) (packed xs)
packed_known xs all =
    elim (cases_lt (length xs) 8) [
      | inl few ↦
          let below = packed-lt 0 xs all in
          let power = pow-le-pow_right {n = 256} (omega arith) {i = length xs} {j = 7} (omega (arith, few)) in
          inl (mod-eq_of_lt {n = packed xs} {m = 2 ^ 64} (omega (arith, below, power)))
      | inr many ↦
          let left = many_left xs all (omega (arith, many)) in
          inr (left, omega (arith, left, mod-le (packed xs) (2 ^ 64)))
    ]
