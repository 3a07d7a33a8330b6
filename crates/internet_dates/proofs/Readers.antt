-- Small readers on lists against their grammars: what is read stands in front, and what stands in front is read.
use Rattle.std.proofs.Common.{◌≡◌, ℕ, ◌+◌, ◌-◌, ◌*◌, ◌<◌, ◌≤◌, ◌&&◌, ◌==◌, nat_le, Bool, true, List, [], ◌∷◌, ◌++◌, length, Option, Some}
use Rattle.std.proofs.Common.{None, refl, ◌∙◌, ap, subst, arith}
use Rattle.std.specs.Prelude.{option_and_then}
use Rattle.std.proofs.lemmas.Bool.{eqb-true, eq-eqb}
use Rattle.std.specs.Char.{is_ascii_digit, digit_value}
use Rattle.std.proofs.lemmas.Bool.Decides.{nat_tests}
use Rattle.std.proofs.lemmas.Option.{cond_some, some_pair_parts, option_and_then_some}
use Rattle.scan_core.specs.Fields.{IsField}
use Rattle.scan_core.proofs.DigitFacts.{digits_from_all, test_from_digit, digit_is_alone}
use Rattle.internet_dates.specs.inside.Reading.{read_mark, two_number, with_rest, read_two, read_pair, four_number, read_four, read_year}

-- what is read stands in front
abbrev pub Sound : {V : Type 0} → (List ℕ → V → Type 0) → (List ℕ → Option (V × List ℕ)) → Type 0
Sound {V} Is read =
    (bytes rest : List ℕ) (value : V) → read bytes ≡ Some (value, rest) → (text : List ℕ) × Is text value × (bytes ≡ text ++ rest)

-- what stands in front is read
abbrev pub Exact : {V : Type 0} → (List ℕ → V → Type 0) → (List ℕ → Option (V × List ℕ)) → Type 0
Exact {V} Is read = (text rest : List ℕ) (value : V) → Is text value → read (text ++ rest) ≡ Some (value, rest)

-- ---- marks

pub mark_sound : (mark : ℕ) (bytes rest : List ℕ) → read_mark mark bytes ≡ Some rest → bytes ≡ mark ∷ rest
mark_sound mark [] rest h = absurd cc
mark_sound mark (b ∷ bs) rest h =
    let found = cond_some (b == mark) bs rest h in
    let here = eqb-true b mark found.0 in
    rw (here, found.1) refl

pub mark_exact : (mark : ℕ) (rest : List ℕ) → read_mark mark (mark ∷ rest) ≡ Some rest
mark_exact mark rest = rw (eq-eqb mark mark refl) refl

pub rest_parts : {A : Type 0} (rest behind : List ℕ) (found : Option A) (value : A) → with_rest rest found ≡ Some (value, behind)
    → (found ≡ Some value) × (rest ≡ behind)
rest_parts rest behind None value h = absurd cc
rest_parts rest behind (Some v) value h = let parts = some_pair_parts _ _ _ _ h in (ap Some parts.0, parts.1)

-- a reader behind a mark
pub behind_sound : {V : Type 0} (mark : ℕ) (Is : List ℕ → V → Type 0) (read : List ℕ → Option (V × List ℕ)) → Sound Is read
    → (bytes rest : List ℕ) (value : V) → option_and_then read (read_mark mark bytes) ≡ Some (value, rest)
    → (text : List ℕ) × Is text value × (bytes ≡ mark ∷ (text ++ rest))
behind_sound mark Is read sound bytes rest value h =
    option_and_then_some _ _ _ h (λ later found body.
    let piece = sound later rest value body in
    (piece.0, piece.1, mark_sound mark bytes later found ∙ ap (λ (l : List ℕ). mark ∷ l) piece.2))

pub behind_exact : {V : Type 0} (mark : ℕ) (Is : List ℕ → V → Type 0) (read : List ℕ → Option (V × List ℕ)) → Exact Is read
    → (text rest : List ℕ) (value : V) → Is text value → option_and_then read (read_mark mark (mark ∷ (text ++ rest))) ≡ Some (value, rest)
behind_exact mark Is read exact text rest value is = rw (mark_exact mark (text ++ rest)) (exact text rest value is)

-- ---- two digits

two_tests : (p q : Bool) (lo hi v : ℕ) → ((p && q) && (nat_le lo v && nat_le v hi)) ≡ true → (p ≡ true) × (q ≡ true) × (lo ≤ v) × (v ≤ hi)
two_tests p q lo hi v h = grind (arith, nat_tests)

two_passes : (p q : Bool) (lo hi v : ℕ) → p ≡ true → q ≡ true → lo ≤ v → v ≤ hi → ((p && q) && (nat_le lo v && nat_le v hi)) ≡ true
two_passes p q lo hi v a b c d = grind (arith, nat_tests)

pub two_from : (lo hi a b n : ℕ) → two_number lo hi a b ≡ Some n → IsField 2 lo hi (a ∷ b ∷ []) n
unfolding two_number
two_from lo hi a b n h =
    let v : ℕ = 10 * (a - 48) + (b - 48) in
    let found = cond_some ((is_ascii_digit a && is_ascii_digit b) && (nat_le lo v && nat_le v hi)) v n h in
    let test = two_tests (is_ascii_digit a) (is_ascii_digit b) lo hi v found.0 in
    let digits = digits_from_all (a ∷ b ∷ []) (rw (test.0, test.1) refl) in
    let first = digit_is_alone a digits.0 in
    let second = digit_is_alone b digits.1.0 in
    let same = found.1 in
    record {
      long = refl;
      digits = digits;
      number = omega (arith, first, second, same);
      least = omega (arith, same, test.2);
      most = omega (arith, same, test.3);
    }

pub two_is : (lo hi a b n : ℕ) → IsField 2 lo hi (a ∷ b ∷ []) n → two_number lo hi a b ≡ Some n
unfolding two_number
two_is lo hi a b n f =
    let v : ℕ = 10 * (a - 48) + (b - 48) in
    let digits = f.digits in
    let first = digit_is_alone a digits.0 in
    let second = digit_is_alone b digits.1.0 in
    let number = f.number in
    let same : v ≡ n = omega (arith, first, second, number) in
    let least = f.least in
    let most = f.most in
    let test = two_passes (is_ascii_digit a) (is_ascii_digit b) lo hi v (test_from_digit a digits.0) (test_from_digit b digits.1.0)
    (omega (arith, same, least)) (omega (arith, same, most)) in
    rw test (ap Some same)

pub two_bytes : (text : List ℕ) → length text ≡ 2 → (a : ℕ) × (b : ℕ) × (text ≡ a ∷ b ∷ [])
two_bytes [] h = absurd (omega (arith, h))
two_bytes (a ∷ []) h = absurd (omega (arith, h))
two_bytes (a ∷ b ∷ []) h = (a, b, refl)
two_bytes (a ∷ b ∷ c ∷ more) h = absurd (omega (arith, h))

pub two_sound : (lo hi : ℕ) → Sound (IsField 2 lo hi) (read_two lo hi)
two_sound lo hi [] rest value h = absurd cc
two_sound lo hi (a ∷ []) rest value h = absurd cc
two_sound lo hi (a ∷ b ∷ bs) rest value h =
    let parts = rest_parts bs rest (two_number lo hi a b) value h in
    (a ∷ b ∷ [], two_from lo hi a b value parts.0, ap (λ (l : List ℕ). a ∷ b ∷ l) parts.1)

pub two_exact : (lo hi : ℕ) → Exact (IsField 2 lo hi) (read_two lo hi)
two_exact lo hi text rest value f =
    let bytes = two_bytes text f.long in
    let P : List ℕ → Type 0 = λ l. IsField 2 lo hi l value in
    let found = two_is lo hi bytes.0 bytes.1 value (subst P bytes.2 f) in
    rw (bytes.2, found) refl

pub pair_sound : (mark lo hi : ℕ) (bytes rest : List ℕ) (value : ℕ) → read_pair mark lo hi bytes ≡ Some (value, rest)
    → (text : List ℕ) × IsField 2 lo hi text value × (bytes ≡ mark ∷ (text ++ rest))
unfolding read_pair
pair_sound mark lo hi bytes rest value h = behind_sound mark (IsField 2 lo hi) (read_two lo hi) (two_sound lo hi) bytes rest value h

pub pair_exact : (mark lo hi : ℕ) (text rest : List ℕ) (value : ℕ) → IsField 2 lo hi text value
    → read_pair mark lo hi (mark ∷ (text ++ rest)) ≡ Some (value, rest)
unfolding read_pair
pair_exact mark lo hi text rest value f = behind_exact mark (IsField 2 lo hi) (read_two lo hi) (two_exact lo hi) text rest value f

-- ---- one digit

pub one_from : (lo hi b n : ℕ) → two_number lo hi 48 b ≡ Some n → 1 ≤ lo → IsField 1 1 9 (b ∷ []) n
one_from lo hi b n h some =
    let f = two_from lo hi 48 b n h in
    let digits = f.digits in
    let number = f.number in
    let least = f.least in
    let small = digits.1.0 in
    record {
      long = refl;
      digits = digits.1;
      number = omega (arith, number);
      least = omega (arith, least, some);
      most = omega (arith, number, small);
    }

pub one_is : (hi b n : ℕ) → 9 ≤ hi → IsField 1 1 9 (b ∷ []) n → two_number 1 hi 48 b ≡ Some n
one_is hi b n nine f =
    let number = f.number in
    let least = f.least in
    let most = f.most in
    let zero : digit_value 48 < 10 = omega arith in
    two_is 1 hi 48 b n (record {
      long = refl;
      digits = (zero, f.digits);
      number = omega (arith, number);
      least = least;
      most = omega (arith, most, nine);
    })

pub one_byte : (text : List ℕ) → length text ≡ 1 → (b : ℕ) × (text ≡ b ∷ [])
one_byte [] h = absurd (omega (arith, h))
one_byte (b ∷ []) h = (b, refl)
one_byte (a ∷ b ∷ more) h = absurd (omega (arith, h))

-- ---- four digits

four_tests : (p q r s : Bool) → ((p && q) && (r && s)) ≡ true → (p ≡ true) × (q ≡ true) × (r ≡ true) × (s ≡ true)
four_tests p q r s h = grind (arith, nat_tests)

four_from : (a b c d n : ℕ) → four_number a b c d ≡ Some n → IsField 4 0 9999 (a ∷ b ∷ c ∷ d ∷ []) n
unfolding four_number
four_from a b c d n h =
    let v : ℕ = 1000 * (a - 48) + 100 * (b - 48) + 10 * (c - 48) + (d - 48) in
    let found = cond_some ((is_ascii_digit a && is_ascii_digit b) && (is_ascii_digit c && is_ascii_digit d)) v n h in
    let test = four_tests (is_ascii_digit a) (is_ascii_digit b) (is_ascii_digit c) (is_ascii_digit d) found.0 in
    let digits = digits_from_all (a ∷ b ∷ c ∷ d ∷ []) (rw (test.0, test.1, test.2, test.3) refl) in
    let one = digit_is_alone a digits.0 in
    let two = digit_is_alone b digits.1.0 in
    let three = digit_is_alone c digits.1.1.0 in
    let four = digit_is_alone d digits.1.1.1.0 in
    let w = digits.0 in
    let x = digits.1.0 in
    let y = digits.1.1.0 in
    let z = digits.1.1.1.0 in
    let same = found.1 in
    record {
      long = refl;
      digits = digits;
      number = omega (arith, one, two, three, four, same);
      least = omega arith;
      most = omega (arith, one, two, three, four, same, w, x, y, z);
    }

four_is : (a b c d n : ℕ) → IsField 4 0 9999 (a ∷ b ∷ c ∷ d ∷ []) n → four_number a b c d ≡ Some n
unfolding four_number
four_is a b c d n f =
    let digits = f.digits in
    let one = digit_is_alone a digits.0 in
    let two = digit_is_alone b digits.1.0 in
    let three = digit_is_alone c digits.1.1.0 in
    let four = digit_is_alone d digits.1.1.1.0 in
    let number = f.number in
    let same : 1000 * (a - 48) + 100 * (b - 48) + 10 * (c - 48) + (d - 48) ≡ n = omega (arith, one, two, three, four, number) in
    rw (test_from_digit a digits.0, test_from_digit b digits.1.0, test_from_digit c digits.1.1.0, test_from_digit d digits.1.1.1.0)
    (ap Some same)

four_bytes : (text : List ℕ) → length text ≡ 4 → (a : ℕ) × (b : ℕ) × (c : ℕ) × (d : ℕ) × (text ≡ a ∷ b ∷ c ∷ d ∷ [])
four_bytes [] h = absurd (omega (arith, h))
four_bytes (a ∷ []) h = absurd (omega (arith, h))
four_bytes (a ∷ b ∷ []) h = absurd (omega (arith, h))
four_bytes (a ∷ b ∷ c ∷ []) h = absurd (omega (arith, h))
four_bytes (a ∷ b ∷ c ∷ d ∷ []) h = (a, b, c, d, refl)
four_bytes (a ∷ b ∷ c ∷ d ∷ e ∷ more) h = absurd (omega (arith, h))

four_sound : Sound (IsField 4 0 9999) read_four
four_sound [] rest value h = absurd cc
four_sound (a ∷ []) rest value h = absurd cc
four_sound (a ∷ b ∷ []) rest value h = absurd cc
four_sound (a ∷ b ∷ c ∷ []) rest value h = absurd cc
four_sound (a ∷ b ∷ c ∷ d ∷ bs) rest value h =
    let parts = rest_parts bs rest (four_number a b c d) value h in
    (a ∷ b ∷ c ∷ d ∷ [], four_from a b c d value parts.0, ap (λ (l : List ℕ). a ∷ b ∷ c ∷ d ∷ l) parts.1)

four_exact : Exact (IsField 4 0 9999) read_four
four_exact text rest value f =
    let bytes = four_bytes text f.long in
    let P : List ℕ → Type 0 = λ l. IsField 4 0 9999 l value in
    let found = four_is bytes.0 bytes.1 bytes.2 bytes.3 value (subst P bytes.4 f) in
    rw (bytes.4, found) refl

pub year_sound : (bytes rest : List ℕ) (value : ℕ) → read_year bytes ≡ Some (value, rest)
    → (text : List ℕ) × IsField 4 0 9999 text value × (bytes ≡ 32 ∷ (text ++ rest))
unfolding read_year
year_sound bytes rest value h = behind_sound 32 (IsField 4 0 9999) read_four four_sound bytes rest value h

pub year_exact : (text rest : List ℕ) (value : ℕ) → IsField 4 0 9999 text value → read_year (32 ∷ (text ++ rest)) ≡ Some (value, rest)
unfolding read_year
year_exact text rest value f = behind_exact 32 (IsField 4 0 9999) read_four four_exact text rest value f
