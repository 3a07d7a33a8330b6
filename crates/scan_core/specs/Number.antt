-- Decimal numbers: an optional sign, then ASCII digits with at most one point among, before or behind them, and at least one digit.
-- `5.`, `.5` and `-.5` are numbers; `-`, `.`, `1-2`, `1e5` and `inf` aren't.
use Rattle.std.specs.Prelude.{◌≡◌, ℕ, ◌+◌, ◌<◌, ◌⊎◌, Bool, true, false, List, [], ◌++◌, length, codes, if◌then◌else◌}
use Rattle.scan_core.specs.Digits.{AreDigits}

-- the sign of a number: a minus where it is negative, and else nothing or, where a plus may stand, a plus
abbrev pub IsSign : Bool → Bool → List ℕ → Type 0
IsSign plus true sign = sign ≡ codes "-"
IsSign plus false sign = (sign ≡ []) ⊎ ((plus ≡ true) × (sign ≡ codes "+"))

-- the minus of a negative number
abbrev pub minus : Bool → List ℕ
minus negative = if negative then codes "-" else []

-- a sign that is always written, a plus also of 0
abbrev pub sign_text : Bool → List ℕ
sign_text true = codes "-"
sign_text false = codes "+"

-- what stands behind the whole digits: nothing, or a point and the fraction digits
abbrev pub IsFraction : List ℕ → List ℕ → Type 0
IsFraction fraction tail =
    ((fraction ≡ []) × (tail ≡ [])) ⊎ (AreDigits fraction × (tail ≡ codes "." ++ fraction))

-- the word is a number with this sign, these digits before the point, and these behind it
pub record IsNumber (plus negative : Bool) (whole fraction word : List ℕ) : Type 0 where
  pub sign : List ℕ
  pub tail : List ℕ
  pub signed : IsSign plus negative sign
  pub digits : AreDigits whole
  pub point : IsFraction fraction tail
  pub some : 0 < length whole + length fraction
  pub joined : word ≡ sign ++ (whole ++ tail)
