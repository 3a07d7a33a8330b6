-- Numbers of 32 bits that digits write, and how one grows digit by digit.
use Rattle.std.proofs.Common.{◌≡◌, ℕ, ◌+◌, ◌*◌, ◌^◌, ◌<◌, ◌≤◌, ◌⊎◌, ◌&&◌, nat_lt, Bool, true, false, cond, List, [], ◌∷◌, length, Option}
use Rattle.std.proofs.Common.{Some, None, refl, sym, ◌∙◌, ap, arith, inr}
use Rattle.std.proofs.lemmas.Bool.Decides.{nat_tests}
use Rattle.std.specs.Char.{digit_value, is_ascii_digit}
use Rattle.std.specs.Str.Parse.{digits_value_after}
use Rattle.scan_core.specs.Digits.{AreDigits, number_of}
use Rattle.scan_core.specs.Fronts.{NoDigitFirst, front_digits}
use Rattle.scan_core.proofs.FrontFacts.{front_are_digits}
use Rattle.iso8601.specs.Durations.{IsNumberOf32Bits}
use Rattle.iso8601.specs.inside.Reading.{number_in}

-- ---- which digits write one

fits_test : (a b : ℕ) → 0 < a → b < 2 ^ 32 → (nat_lt 0 a && nat_lt b (2 ^ 32)) ≡ true
fits_test a b h k = grind (arith, nat_tests)

misfits_test : (a b : ℕ) → (a ≡ 0) ⊎ (2 ^ 32 ≤ b) → (nat_lt 0 a && nat_lt b (2 ^ 32)) ≡ false
misfits_test a b h = grind (arith, nat_tests)

pub number_exact : (digits : List ℕ) (n : ℕ) → IsNumberOf32Bits digits n → number_in digits ≡ Some n
unfolding number_in
number_exact digits n is = rw (fits_test (length digits) (number_of digits) is.some (omega (arith, is.number, is.fits)), is.number) refl

pub number_missing : (digits : List ℕ) → (length digits ≡ 0) ⊎ (2 ^ 32 ≤ number_of digits) → number_in digits ≡ None
unfolding number_in
number_missing digits h = rw (misfits_test (length digits) (number_of digits) h) refl

number_if : (t : Bool) (digits : List ℕ) (n : ℕ) → AreDigits digits → (nat_lt 0 (length digits) && nat_lt (number_of digits) (2 ^ 32)) ≡ t
    → cond {A = Option ℕ} t (Some (number_of digits)) None ≡ Some n → IsNumberOf32Bits digits n
number_if true digits n all e h =
    let same : n ≡ number_of digits = cc in
    let tests : (0 < length digits) × (number_of digits < 2 ^ 32) = grind (arith, nat_tests) in
    record { some = tests.0; all_digits = all; number = same; fits = omega (arith, tests.1) }
number_if false digits n all e h = cc

pub number_sound : (digits : List ℕ) (n : ℕ) → AreDigits digits → number_in digits ≡ Some n → IsNumberOf32Bits digits n
unfolding number_in
number_sound digits n all h = number_if (nat_lt 0 (length digits) && nat_lt (number_of digits) (2 ^ 32)) digits n all refl h

-- ---- one more digit

digit_test : (d : ℕ) → d < 10 → is_ascii_digit (d + 48) ≡ true
digit_test d h = grind (arith, nat_tests)

digit_is : (d : ℕ) → d < 10 → digit_value (d + 48) ≡ d
digit_is d h = grind (arith, nat_tests)

value_more : (n d : ℕ) (bytes rest : List ℕ) → d < 10 → bytes ≡ (d + 48) ∷ rest
    → digits_value_after 10 n (front_digits bytes) ≡ digits_value_after 10 (n * 10 + d) (front_digits rest)
value_more n d bytes rest h e = rw (e, digit_test d h) (ap (λ v. digits_value_after 10 (n * 10 + v) (front_digits rest)) (digit_is d h))

value_grows : (n : ℕ) (digits : List ℕ) → n ≤ digits_value_after 10 n digits
value_grows n [] = omega arith
value_grows n (d ∷ ds) = omega (arith, value_grows (n * 10 + digit_value d) ds)

-- a number that is beyond 32 bits with one more digit, whatever follows
pub number_beyond : (n d : ℕ) (all bytes rest : List ℕ) → digits_value_after 10 n (front_digits bytes) ≡ number_of (front_digits all)
    → d < 10 → bytes ≡ (d + 48) ∷ rest
    → 2 ^ 32 ≤ n * 10 + d → number_in (front_digits all) ≡ None
number_beyond n d all bytes rest number small split great =
    number_missing (front_digits all) (inr (omega (
      arith,
      value_grows (n * 10 + d) (front_digits rest),
      value_more n d bytes rest small split,
      number,
    )))

pub no_front : (bytes : List ℕ) → NoDigitFirst bytes → front_digits bytes ≡ []
no_front [] n = refl
no_front (b ∷ bs) n = rw n refl

-- a number whose digits are all read
pub number_read : (n : ℕ) (all rest : List ℕ) → 0 < length (front_digits all)
    → digits_value_after 10 n (front_digits rest) ≡ number_of (front_digits all) → n < 2 ^ 32 → NoDigitFirst rest
    → number_in (front_digits all) ≡ Some n
number_read n all rest some number fits stop =
    let same : n ≡ number_of (front_digits all) = sym (ap (digits_value_after 10 n) (no_front rest stop)) ∙ number in
    number_exact (front_digits all) n (record { some = some; all_digits = front_are_digits all; number = same; fits = fits })
