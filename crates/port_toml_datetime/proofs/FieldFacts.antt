-- Fields: tests of their length and number, and fields in front of a text.
use Rattle.std.proofs.Common.{◌≡◌, ℕ, ◌<◌, ◌≤◌, ◌^◌, nat_le, true, List, [], ◌++◌, length, append-nil, subst, refl, arith}
use Rattle.std.proofs.lemmas.Bool.{eqb-true, eq-eqb, leb-true, le-leb}
use Rattle.std.proofs.lemmas.Bool.Decides.{nat_tests}
use Rattle.scan_core.specs.Digits.{AreDigits, number_of}
use Rattle.scan_core.proofs.DigitFacts.{number_of-lt}
use Rattle.scan_core.specs.Fields.{IsField}
use Rattle.port_toml_datetime.specs.Checks.{has_length, is_within}
use Rattle.scan_core.specs.Fronts.{NoDigitFirst}
use Rattle.port_toml_datetime.proofs.TokenFacts.{IsRun, run_exact}

length_is : (n : ℕ) (text : List ℕ) → has_length n text ≡ true → length text ≡ n
length_is n text h = eqb-true (length text) n h

pub is_length : (n : ℕ) (text : List ℕ) → length text ≡ n → has_length n text ≡ true
is_length n text h = eq-eqb (length text) n h

pub within_is : (lo hi n : ℕ) → is_within lo hi n ≡ true → (lo ≤ n) × (n ≤ hi)
within_is lo hi n h = grind (arith, nat_tests)

pub is_within_them : (lo hi n : ℕ) → lo ≤ n → n ≤ hi → is_within lo hi n ≡ true
is_within_them lo hi n p q = grind (arith, nat_tests)

pub field_made : (count lo hi : ℕ) (text : List ℕ) → AreDigits text → has_length count text ≡ true → lo ≤ number_of text
    → number_of text ≤ hi → IsField count lo hi text (number_of text)
field_made count lo hi text digits long least most = record {
  long = length_is count text long;
  digits = digits;
  number = refl;
  least = least;
  most = most;
}

pub two_made : (hi : ℕ) (text : List ℕ) → AreDigits text → has_length 2 text ≡ true → nat_le (number_of text) hi ≡ true
    → IsField 2 0 hi text (number_of text)
two_made hi text digits long most = field_made 2 0 hi text digits long (omega arith) (leb-true (number_of text) hi most)

pub four_made : (text : List ℕ) → AreDigits text → has_length 4 text ≡ true → IsField 4 0 9999 text (number_of text)
four_made text digits long =
    let four = length_is 4 text long in
    let small : number_of text < 10 ^ 4 = rw four at (number_of-lt text digits) in
    field_made 4 0 9999 text digits long (omega arith) (omega (arith, small))

pub field_run : (count lo hi : ℕ) (text rest : List ℕ) (value : ℕ) → IsField count lo hi text value → 0 < count → NoDigitFirst rest
    → IsRun text (text ++ rest) rest
field_run count lo hi text rest value f some n = run_exact text rest (omega (arith, f.long)) f.digits n

pub field_last : (count lo hi : ℕ) (text : List ℕ) (value : ℕ) → IsField count lo hi text value → 0 < count → IsRun text text []
field_last count lo hi text value f some = subst (λ (l : List ℕ). IsRun text l []) (append-nil text)
    (field_run count lo hi text [] value f some tt)

pub most_of : (count lo hi : ℕ) (text : List ℕ) (value : ℕ) → IsField count lo hi text value → nat_le (number_of text) hi ≡ true
most_of count lo hi text value f = le-leb (number_of text) hi (omega (arith, f.number, f.most))
