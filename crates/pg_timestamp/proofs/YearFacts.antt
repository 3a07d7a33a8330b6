-- The digits of a year, and the year that is held.
use Rattle.std.proofs.Common.{◌≡◌, ℕ, ◌+◌, ◌-◌, ◌*◌, ◌%◌, ◌^◌, ◌<◌, ◌≤◌, min, true, false, nat_lt, List, [], ◌∷◌, ◌++◌, length}
use Rattle.std.proofs.Common.{refl, sym, ◌∙◌, ap, subst, arith}
use Rattle.std.proofs.lemmas.Bool.Decides.{nat_tests}
use Rattle.std.specs.Char.{digit_value, is_ascii_digit}
use Rattle.scan_core.specs.Digits.{AreDigits, number_of}
use Rattle.scan_core.specs.Fronts.{front_digits}
use Rattle.scan_core.proofs.DigitFacts.{digit_is_alone, digits_from_all, digits_right, number_of-append, number_of-lt}
use Rattle.scan_core.proofs.FrontFacts.{front_are_digits}
use Rattle.pg_timestamp.specs.Dates.{IsLongYear, held_year}

pub four_last : (ds xs ys : List ℕ) → AreDigits ds → xs ++ ys ≡ ds → length ys ≡ 4
    → AreDigits ys × (number_of ys < 10_000) × (number_of ys ≡ number_of ds % 10_000)
four_last ds xs ys are joined long =
    let both : AreDigits (xs ++ ys) = subst AreDigits (sym joined) are in
    let last : AreDigits ys = digits_right xs ys both in
    let small : number_of ys < 10 ^ 4 = rw long at (number_of-lt ys last) in
    let whole : number_of ds ≡ number_of xs * 10 ^ 4 + number_of ys = ap number_of (sym joined) ∙ rw long at (number_of-append xs ys) in
    (last, omega (arith, small), omega (arith, small, whole))

pub held_below : (n : ℕ) → n < 40_000 → held_year n ≡ n
unfolding held_year
held_below n small = let t : nat_lt n 40_000 ≡ true = grind (arith, nat_tests) in rw t refl

pub held_above : (n : ℕ) → 40_000 ≤ n → held_year n ≡ 40_000 + n % 10_000
unfolding held_year
held_above n large = let t : nat_lt n 40_000 ≡ false = grind (arith, nat_tests) in rw t refl

pub capped_below : (n c : ℕ) → c ≡ min n (2 ^ 32 - 1) → c < 40_000 → c ≡ held_year n
capped_below n c is small = let same : c ≡ n = omega (arith, is, small) in same ∙ sym (held_below n (omega (arith, same, small)))

pub capped_above : (n c last : ℕ) → c ≡ min n (2 ^ 32 - 1) → 40_000 ≤ c → last ≡ n % 10_000 → 40_000 + last ≡ held_year n
capped_above n c last is large four = let above : 40_000 ≤ n = omega (arith, is, large) in
    ap (λ (k : ℕ). 40_000 + k) four ∙ sym (held_above n above)

pub front_year : (text digits : List ℕ) (year : ℕ) → digits ≡ front_digits text → (length digits < 4 → ⊥)
    → year ≡ held_year (number_of digits)
    → IsLongYear (front_digits text) year
front_year text digits year same few number =
    let long = ap length same in
    record {
      least = omega (arith, few, long);
      digits = front_are_digits text;
      number = number
          ∙ ap (λ (l : List ℕ). held_year (number_of l)) same;
    }

-- a digit by its byte
pub digit_is : (d : ℕ) → true ≡ is_ascii_digit d → (digit_value d < 10) × (d - 48 ≡ digit_value d)
digit_is d is =
    let all : is_ascii_digit d ≡ true = sym is in
    let are : AreDigits (d ∷ []) = digits_from_all (d ∷ []) (rw all refl) in
    let value = digit_is_alone d are.0 in (are.0, omega (arith, value))

-- the year of four digits
pub four_year : (a b c d : ℕ) → true ≡ is_ascii_digit a → true ≡ is_ascii_digit b → true ≡ is_ascii_digit c → true ≡ is_ascii_digit d
    → IsLongYear (a ∷ b ∷ c ∷ d ∷ []) (100 * (10 * (a - 48) + (b - 48)) + (10 * (c - 48) + (d - 48)))
four_year a b c d da db dc dd =
    let (ta, va) = digit_is a da in
    let (tb, vb) = digit_is b db in
    let (tc, vc) = digit_is c dc in
    let (td, vd) = digit_is d dd in
    let value : 100 * (10 * (a - 48) + (b - 48)) + (10 * (c - 48) + (d - 48)) ≡ number_of (a ∷ b ∷ c ∷ d ∷ []) =
    omega (arith, va, vb, vc, vd) in
    let small : number_of (a ∷ b ∷ c ∷ d ∷ []) < 40_000 = omega (arith, ta, tb, tc, td) in
    record {
      least = omega arith;
      digits = (ta, (tb, (tc, (td, tt))));
      number = value
          ∙ sym (held_below (number_of (a ∷ b ∷ c ∷ d ∷ [])) small);
    }
