-- Values: what the texts of all forms stand for. Moments, in UTC, and days are counted from 1970-01-01 in the proleptic Gregorian
-- calendar; a day has 86_400 seconds, as in POSIX.1, "Seconds Since the Epoch".
use Rattle.std.specs.Prelude.{◌≡◌, ℕ, ◌*◌, ◌^◌, ◌<◌, ℤ, pos, ◌+ℤ◌, ◌*ℤ◌, FitsSigned}
use Rattle.std.specs.Int.{w64}
use Rattle.jiff.specs.Words.{IsBetween, IsWithin, IsEpochDay}
use Rattle.forms.specs.declared.value.Value.{Value}
use Rattle.forms.specs.declared.value.Value.TheVariants.{Instant, Day, Local, Clock, Triple, Length}

-- nanoseconds of a day
abbrev pub IsOfDay : ℤ → Type 0
IsOfDay nanos = IsBetween (pos 0) (pos 86_399_999_999_999) nanos

-- The bounds of each value that a text stands for: instants are within 10^22 nanoseconds of 1970, days are of the years -9999 to 9999,
-- the numbers of a triple have 64 bits with a sign, and lengths have fewer than 2^64 seconds.
abbrev pub IsWithinBounds : Value → Type 0
IsWithinBounds (Instant nanos) = IsWithin (10 ^ 22) nanos
IsWithinBounds (Day day) = IsEpochDay day
IsWithinBounds (Local day nanos) = IsEpochDay day × IsOfDay nanos
IsWithinBounds (Clock nanos) = IsOfDay nanos
IsWithinBounds (Triple months days micros) =
    FitsSigned w64 months × (FitsSigned w64 days × FitsSigned w64 micros)
IsWithinBounds (Length nanos) = nanos < 2 ^ 64 * 1_000_000_000

-- the nanoseconds of days and microseconds
abbrev pub nanos_of : ℤ → ℤ → ℤ
nanos_of days micros = (days *ℤ pos 86_400_000_000 +ℤ micros) *ℤ pos 1000

-- a triple without months is a length
abbrev pub IsLength : ℕ → ℤ → ℤ → ℤ → Type 0
IsLength nanos months days micros = (months ≡ pos 0) × (nanos_of days micros ≡ pos nanos)

-- two values are the same: they are equal, or one is a triple that is the other's length
abbrev pub Same : Value → Value → Type 0
Same (Triple months days micros) (Length nanos) = IsLength nanos months days micros
Same (Length nanos) (Triple months days micros) = IsLength nanos months days micros
Same v w = v ≡ w
