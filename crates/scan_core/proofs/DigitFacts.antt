-- Digits and the number that they write: one more digit, a front, a join, and the decimal text of a number.
use Rattle.std.proofs.Common.{◌≡◌, ℕ, zero, suc, ◌+◌, ◌-◌, ◌*◌, ◌^◌, ◌<◌, ◌≤◌, Bool, true, ◌&&◌, List, [], ◌∷◌, ◌++◌, length, get_or, take}
use Rattle.std.proofs.Common.{add-one, drop, decimal, replicate, append_assoc, refl, ap, sym, ◌∙◌, arith}
use Rattle.std.proofs.Math.Nat.{pow-suc, pow-le-pow_right}
use Rattle.std.proofs.lemmas.Bool.Decides.{nat_tests}
use Rattle.std.proofs.lemmas.Fmt.{decimal_is_IsNumeral, length-decimal-le}
use Rattle.std.proofs.lemmas.Int.Digits.{digits_value_more, digits_value-lt}
use Rattle.std.proofs.lemmas.List.{drop_more, take_rest, length-take}
use Rattle.std.proofs.lemmas.Str.{digit_value_digit}
use Rattle.std.proofs.lemmas.Str.Parse.{digit_at, digit_from_value, digits_value-take-le}
use Rattle.std.specs.Char.{digit_value, is_ascii_digit}
use Rattle.std.specs.List.{list_all}
use Rattle.std.specs.Str.Parse.{digits_value_after}
use Rattle.scan_core.specs.Digits.{AreDigits, number_of}

-- a digit is its value and 48
pub digit_is : (ds : List ℕ) (i : ℕ) → AreDigits ds → i < length ds → digit_value (get_or ds i 0) + 48 ≡ get_or ds i 0
digit_is ds i all h = digit_value_digit (get_or ds i 0) (digit_at ds i all h)

pub digit_is_alone : (d : ℕ) → digit_value d < 10 → digit_value d + 48 ≡ d
digit_is_alone d h = digit_value_digit d (digit_from_value d h)

-- ---- the number of some of the digits

pub number_of_more : (ds : List ℕ) (i : ℕ) → AreDigits ds → i < length ds
    → number_of (take (i + 1) ds) + 48 ≡ number_of (take i ds) * 10 + get_or ds i 0
number_of_more ds i all h = omega (arith, digits_value_more 10 ds i h, digit_is ds i all h)

pub number_of-take-le : (ds : List ℕ) (i : ℕ) → number_of (take i ds) ≤ number_of ds
number_of-take-le ds i = digits_value-take-le 10 ds i (omega arith)

pub number_of-lt : (ds : List ℕ) → AreDigits ds → number_of ds < 10 ^ length ds
number_of-lt ds all = digits_value-lt 10 ds all

weighed : (n v p q m k : ℕ) → m ≡ (n * 10 + v) * p + q → k ≡ (0 * 10 + v) * p + q → m ≡ n * (p * 10) + k
weighed n v p q m k e f = omega arith

number_after : (n : ℕ) (ds : List ℕ) → digits_value_after 10 n ds ≡ n * 10 ^ length ds + number_of ds
number_after n [] = omega arith
number_after n (d ∷ ds) =
    let v = digit_value d in
    rw (pow-suc 10 (length ds)) (weighed n v (10 ^ length ds) (number_of ds) _ _ (number_after (n * 10 + v) ds)
    (number_after (0 * 10 + v) ds))

after-append : (n : ℕ) (xs ys : List ℕ) → digits_value_after 10 n (xs ++ ys) ≡ digits_value_after 10 (digits_value_after 10 n xs) ys
after-append n [] ys = refl
after-append n (x ∷ xs) ys = after-append (n * 10 + digit_value x) xs ys

pub number_of-cons : (d : ℕ) (ds : List ℕ) → number_of (d ∷ ds) ≡ digit_value d * 10 ^ length ds + number_of ds
number_of-cons d ds = omega (arith, number_after (0 * 10 + digit_value d) ds)

pub number_of-append : (xs ys : List ℕ) → number_of (xs ++ ys) ≡ number_of xs * 10 ^ length ys + number_of ys
number_of-append xs ys = after-append 0 xs ys ∙ number_after (number_of xs) ys

-- ---- which lists are digits

pub digits-append : (xs ys : List ℕ) → AreDigits xs → AreDigits ys → AreDigits (xs ++ ys)
digits-append [] ys p q = q
digits-append (x ∷ xs) ys p q = (p.0, digits-append xs ys p.1 q)

pub digits_left : (xs ys : List ℕ) → AreDigits (xs ++ ys) → AreDigits xs
digits_left [] ys p = tt
digits_left (x ∷ xs) ys p = (p.0, digits_left xs ys p.1)

pub digits_right : (xs ys : List ℕ) → AreDigits (xs ++ ys) → AreDigits ys
digits_right [] ys p = p
digits_right (x ∷ xs) ys p = digits_right xs ys p.1

pub digits-take : (i : ℕ) (ds : List ℕ) → AreDigits ds → AreDigits (take i ds)
digits-take zero ds p = tt
digits-take (suc i) [] p = tt
digits-take (suc i) (d ∷ ds) p = (p.0, digits-take i ds p.1)

-- one more digit
digits_next : (i : ℕ) (ds : List ℕ) → AreDigits (take i ds) → digit_value (get_or ds i 0) < 10 → AreDigits (take (suc i) ds)
digits_next i [] p d = tt
digits_next zero (x ∷ ds) p d = (d, tt)
digits_next (suc i) (x ∷ ds) p d = (p.0, digits_next i ds p.1 d)

pub digits_more : (i : ℕ) (ds : List ℕ) → AreDigits (take i ds) → digit_value (get_or ds i 0) < 10 → AreDigits (take (i + 1) ds)
digits_more i ds p d = rw add-one (digits_next i ds p d)

-- the number of at most 8 digits
pub number_of_few : (i : ℕ) (ds : List ℕ) → AreDigits (take i ds) → i ≤ 8 → number_of (take i ds) < 10 ^ 8
number_of_few i ds all h =
    let below = number_of-lt (take i ds) all in
    let long = length-take i ds in
    let few : length (take i ds) ≤ 8 = omega (arith, long) in
    let most : 10 ^ length (take i ds) ≤ 10 ^ 8 = pow-le-pow_right (omega arith) few in
    omega (arith, below, most)

digit_from_test : (d : ℕ) (t all : Bool) → is_ascii_digit d ≡ t → (t && all) ≡ true → (digit_value d < 10) × (all ≡ true)
digit_from_test d t all e h = grind (arith, nat_tests)

pub test_from_digit : (d : ℕ) → digit_value d < 10 → is_ascii_digit d ≡ true
test_from_digit d h = let p = digit_from_value d h in grind (arith, nat_tests)

pub digits_from_all : (ds : List ℕ) → list_all is_ascii_digit ds ≡ true → AreDigits ds
digits_from_all [] h = tt
digits_from_all (d ∷ ds) h =
    let p = digit_from_test d (is_ascii_digit d) (list_all is_ascii_digit ds) refl h in
    (p.0, digits_from_all ds p.1)

pub all_from_digits : (ds : List ℕ) → AreDigits ds → list_all is_ascii_digit ds ≡ true
all_from_digits [] h = refl
all_from_digits (d ∷ ds) h = rw (test_from_digit d h.0, all_from_digits ds h.1)

-- the last of some digits goes over to those behind it
pub moved : (front some passed all : List ℕ) (d : ℕ) → some ≡ front ++ (d ∷ []) → some ++ passed ≡ all → front ++ (d ∷ passed) ≡ all
moved front some passed all d e h = sym (append_assoc front (d ∷ []) passed) ∙ ap (λ (xs : List ℕ). xs ++ passed) (sym e) ∙ h

-- some digits are their first and the rest
pub first_and_rest : (ds : List ℕ) → 1 ≤ length ds → ds ≡ get_or ds 0 0 ∷ take (length ds - 1) (drop 1 ds)
first_and_rest ds h = drop_more ds 0 0 (omega arith) ∙ ap (λ (xs : List ℕ). get_or ds 0 0 ∷ xs) (sym (take_rest ds 1))

-- ---- leading zeros

pub digits-zeros : (n : ℕ) → AreDigits (replicate n 48)
digits-zeros zero = tt
digits-zeros (suc n) = (omega arith, digits-zeros n)

pub number_of-zeros : (n : ℕ) (ds : List ℕ) → number_of (replicate n 48 ++ ds) ≡ number_of ds
number_of-zeros zero ds = refl
number_of-zeros (suc n) ds = number_of-zeros n ds

-- ---- the decimal text of a number

pub digits_decimal : (n : ℕ) → n < 2 ^ 64 → AreDigits (decimal n)
digits_decimal n h = (decimal_is_IsNumeral n h).0.1

pub number_of-decimal : (n : ℕ) → n < 2 ^ 64 → number_of (decimal n) ≡ n
number_of-decimal n h = (decimal_is_IsNumeral n h).1

pub length_decimal_u64 : (n : ℕ) → n < 2 ^ 64 → length (decimal n) ≤ 20
length_decimal_u64 n small = length-decimal-le 20 n (omega arith) (omega arith) small

pub length_decimal_u32 : (n : ℕ) → n < 2 ^ 32 → length (decimal n) ≤ 10
length_decimal_u32 n small = length-decimal-le 10 n (omega arith) (omega arith) (omega arith)

pub length_decimal_two : (n : ℕ) → n < 100 → length (decimal n) ≤ 2
length_decimal_two n small = length-decimal-le 2 n (omega arith) (omega arith) (omega arith)
