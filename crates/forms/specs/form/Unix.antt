-- Unix time: POSIX seconds since the epoch (The Open Group Base Specifications, 4.19) in decimal, to the nanosecond.
use Rattle.std.specs.Prelude.{◌≡◌, ◌⊎◌, ℕ, ◌+◌, ◌-◌, ◌/◌, ◌%◌, ◌^◌, ◌<◌, ◌≤◌, ◌==◌, Bool, List, []}
use Rattle.std.specs.Prelude.{◌++◌, length, codes, decimal, replicate, ℤ, pos, negsuc, unsigned_abs, Result, Ok, Err, nat_le, if◌then◌else◌}
use Rattle.scan_core.specs.Digits.{AreDigits, number_of}
use Rattle.scan_core.specs.Number.{minus}
use Rattle.scan_core.specs.Padded.{padded_digits, trimmed_digits}
use Rattle.scan_core.specs.Shares.{signed}
use Rattle.forms.specs.declared.cause.Cause.{Cause}
use Rattle.forms.specs.declared.cause.Cause.TheVariants.{Range, Kind}
use Rattle.forms.specs.declared.value.Value.{Value}
use Rattle.forms.specs.declared.value.Value.TheVariants.{Instant}

-- ---- reading

-- nothing, or a point and one to nine digits
abbrev pub IsShortFraction : List ℕ → List ℕ → Type 0
IsShortFraction fraction tail =
    ((fraction ≡ []) × (tail ≡ []))
    ⊎ (((0 < length fraction) × (length fraction ≤ 9)) × AreDigits fraction
    × (tail ≡ codes "." ++ fraction))

-- the digits of a fraction of a second, filled with zeros to its nanoseconds
abbrev pub nine_digits : List ℕ → List ℕ
nine_digits fraction = fraction ++ replicate (9 - length fraction) 48

-- digits, perhaps a minus before them, also before 0, and perhaps a fraction behind: these nanoseconds
pub record Spells (text : List ℕ) (nanos : ℤ) : Type 0 where
  pub negative : Bool
  pub whole : List ℕ
  pub fraction : List ℕ
  pub tail : List ℕ
  pub some : 0 < length whole
  pub digits : AreDigits whole
  pub point : IsShortFraction fraction tail
  pub joined : text ≡ minus negative ++ (whole ++ tail)
  pub value : nanos ≡ signed negative (number_of (whole ++ nine_digits fraction))

-- at most 10^22 nanoseconds to either side, as an instant has
unfoldable pub worth : ℤ → Result Value Cause
worth nanos = if nat_le (unsigned_abs nanos) (10 ^ 22) then Ok (Instant nanos) else Err Range

-- ---- writing

-- each instant is held
abbrev pub held : Value → Result ℤ Cause
held (Instant nanos) = Ok nanos
held _ = Err Kind

-- a point and the digits of a fraction without the zeros at their end, or nothing where they are all zeros
unfoldable pub fraction_text : ℕ → List ℕ
fraction_text nanos =
    if nanos == 0 then [] else (codes "." ++ trimmed_digits (padded_digits 9 nanos))

-- seconds, and what is less than a second
unfoldable pub magnitude_text : ℕ → List ℕ
magnitude_text nanos = decimal (nanos / 10 ^ 9) ++ fraction_text (nanos % 10 ^ 9)

-- the seconds since the epoch, behind a minus where the moment is before it
abbrev pub unix_text : ℤ → List ℕ
unix_text (pos nanos) = magnitude_text nanos
unix_text (negsuc n) = codes "-" ++ magnitude_text (n + 1)
