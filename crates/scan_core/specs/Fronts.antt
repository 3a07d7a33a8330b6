-- The bytes at the front of a text that pass a test, such as its digits, and what follows them.
use Rattle.std.specs.Prelude.{◌≡◌, ℕ, Bool, false, List, [], ◌∷◌, if◌then◌else◌}
use Rattle.std.specs.Char.{is_ascii_digit}

-- the longest front of bytes that pass the test
abbrev pub leading : (ℕ → Bool) → List ℕ → List ℕ
leading test [] = []
leading test (b ∷ bs) = if test b then (b ∷ leading test bs) else []

-- what follows the longest front of bytes that pass the test
abbrev pub behind : (ℕ → Bool) → List ℕ → List ℕ
behind test [] = []
behind test (b ∷ bs) = if test b then behind test bs else (b ∷ bs)

-- no byte that passes the test stands in front
abbrev pub BeginsWithout : (ℕ → Bool) → List ℕ → Type 0
BeginsWithout test [] = Unit {0}
BeginsWithout test (b ∷ bs) = test b ≡ false

-- the digits at the front
abbrev pub front_digits : List ℕ → List ℕ
front_digits bytes = leading is_ascii_digit bytes

-- what follows the digits at the front
abbrev pub after_digits : List ℕ → List ℕ
after_digits bytes = behind is_ascii_digit bytes

-- no digit stands in front
abbrev pub NoDigitFirst : List ℕ → Type 0
NoDigitFirst bytes = BeginsWithout is_ascii_digit bytes
