-- Parts of the grammar by names that private contracts alone cite.
use Rattle.std.specs.Prelude.{◌≡◌, ◌⊎◌, ℕ, List, [], codes, Option, Some, None}
use Rattle.port_toml_datetime.specs.Offsets.{IsTimeOffset}
use Rattle.port_toml_datetime.specs.Times.{IsSecondFraction, IsSeconds}
use Rattle.port_toml_datetime.specs.declared.offset.Offset.{Offset}

-- `time-delim`, which stands between a date and a time
abbrev pub IsDelimiter : List ℕ → Type 0
IsDelimiter text = (text ≡ codes "T") ⊎ ((text ≡ codes "t") ⊎ (text ≡ codes " "))

-- an offset, or nothing
abbrev pub IsPerhapsOffset : List ℕ → Option Offset → Type 0
IsPerhapsOffset text offset =
    ((text ≡ []) × (offset ≡ None)) ⊎ ((o : Offset) × IsTimeOffset text o × (offset ≡ Some o))

-- a fraction, or nothing
abbrev pub IsPerhapsSecondFraction : List ℕ → Option ℕ → Type 0
IsPerhapsSecondFraction text nanosecond =
    ((text ≡ []) × (nanosecond ≡ None)) ⊎ IsSecondFraction text nanosecond

-- seconds, or nothing
abbrev pub IsPerhapsSeconds : List ℕ → Option ℕ → Option ℕ → Type 0
IsPerhapsSeconds text second nanosecond =
    ((text ≡ []) × (second ≡ None) × (nanosecond ≡ None)) ⊎ IsSeconds text second nanosecond
