-- What the small readers answer, as functions on lists: cited by private contracts alone. Each answers a value and what follows it.
use Rattle.std.specs.Prelude.{ℕ, ◌+◌, Bool, true, false, not, ◌&&◌, ◌==◌, nat_lt, List, [], ◌∷◌, length, Option, Some, None, if◌then◌else◌}
use Rattle.std.specs.Prelude.{option_and_then}
use Rattle.scan_core.specs.Count.{Count}
use Rattle.scan_core.specs.Digits.{number_of}
use Rattle.scan_core.specs.Fronts.{front_digits, after_digits}
use Rattle.scan_core.specs.Runs.{IsRun, digits_of}
use Rattle.pg_interval_2.specs.declared.reading.number.Decimal.{Decimal}
use Rattle.scan_core.specs.declared.share.Unit.{Unit as TimeUnit}

-- the count's number isn't 0
abbrev pub is_nonzero : Count → Bool
is_nonzero c = not (number_of c.whole == 0 && number_of c.fraction == 0)

-- whether a minus stands in front, and what follows the sign
abbrev pub read_sign : Bool → List ℕ → Bool × List ℕ
read_sign plus [] = (false, [])
read_sign plus (b ∷ bs) =
    if b == 45 then (true, bs) else if plus && b == 43 then (false, bs) else (false, b ∷ bs)

-- the digits behind a point in front, and what follows them
abbrev pub read_fraction : List ℕ → List ℕ × List ℕ
read_fraction [] = ([], [])
read_fraction (b ∷ bs) = if b == 46 then (front_digits bs, after_digits bs) else ([], b ∷ bs)

-- a number without its unit
pub record Numeral : Type 0 where
  pub negative : Bool
  pub whole : List ℕ
  pub fraction : List ℕ

-- a number that was passed in a text, by its digits
abbrev pub numeral_in : List ℕ → Decimal → Numeral
numeral_in text n = record {
  negative = n.negative;
  whole = digits_of text n.whole;
  fraction = digits_of text n.fraction;
}

-- its digits stand in the text
pub record IsDecimal (text : List ℕ) (n : Decimal) : Type 0 where
  pub whole : IsRun text n.whole
  pub fraction : IsRun text n.fraction

-- digits with a fraction behind a sign, or nothing where no digit is there
unfoldable pub read_unsigned : Bool → List ℕ → Option (Numeral × List ℕ)
read_unsigned negative bytes =
    let fraction = read_fraction (after_digits bytes) in
    if nat_lt 0 (length (front_digits bytes) + length fraction.0)
    then Some
    (record { negative = negative; whole = front_digits bytes; fraction = fraction.0 }, fraction.1)
    else None

unfoldable pub read_number : Bool → List ℕ → Option (Numeral × List ℕ)
read_number plus bytes = let sign = read_sign plus bytes in read_unsigned sign.0 sign.1

-- a number with a unit is a count
abbrev pub count_with : Numeral → TimeUnit → Count
count_with n unit = record {
  negative = n.negative;
  whole = n.whole;
  fraction = n.fraction;
  unit = unit;
}

-- the unit of the letter in front, and what follows it
abbrev pub read_letter : (ℕ → Option TimeUnit) → Numeral → List ℕ → Option (Count × List ℕ)
read_letter unit_of n [] = None
read_letter unit_of n (letter ∷ rest) =
    option_and_then (λ unit. Some (count_with n unit, rest)) (unit_of letter)

-- a number and a letter
unfoldable pub read_pair : (ℕ → Option TimeUnit) → List ℕ → Option (Count × List ℕ)
read_pair unit_of bytes =
    option_and_then (λ r. read_letter unit_of r.0 r.1) (read_number false bytes)
