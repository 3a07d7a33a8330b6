-- What a strict text spells: nothing but counts, each with its part, and the nanoseconds that they make. The text is `0`, or one or
-- more of digits, a unit, and any number of blanks. The crate's law `strict_texts_spell_their_sums` ties it to the original's rule for `m`.
use Rattle.std.specs.Prelude.{◌≡◌, ℕ, ◌+◌, ◌*◌, ◌<◌, ◌⊎◌, ⊤, List, [], ◌∷◌, ◌++◌, length, codes, nat_le, IsTrue}
use Rattle.std.specs.List.{list_all, list_any}
use Rattle.scan_core.specs.Blanks.{is_blank}
use Rattle.scan_core.specs.Digits.{AreDigits, number_of}
use Rattle.scan_core.specs.Join.{IsJoin}
use Rattle.fancy_duration.specs.declared.part.DurationPart.{DurationPart}
use Rattle.fancy_duration.specs.declared.part.DurationPart.TheVariants.{Minutes}
use Rattle.fancy_duration.specs.Parts.{weight_of, unit_of}
use Rattle.fancy_duration.specs.Sums.{can_be}

-- digits, and the part that they count
pub record LengthCount : Type 0 where
  pub digits : List ℕ
  pub part : DurationPart

-- one digit or more, the part's unit and the blanks behind it
pub record IsLengthCount (piece : List ℕ) (c : LengthCount) : Type 0 where
  pub blanks : List ℕ
  pub some_digits : 0 < length c.digits
  pub are_digits : AreDigits c.digits
  pub are_blanks : IsTrue (list_all is_blank blanks)
  pub joined : piece ≡ c.digits ++ (unit_of c.part ++ blanks)

-- a unit `m` is months where a count of minutes or of a longer part follows later, and minutes elsewhere
abbrev pub AreMeant : List LengthCount → Type 0
AreMeant [] = ⊤
AreMeant (c ∷ later) =
    IsTrue (can_be c.part (list_any (λ d. nat_le (weight_of Minutes) (weight_of d.part)) later))
    × AreMeant later

-- the nanoseconds of all counts
abbrev pub nanos_of_counts : List LengthCount → ℕ
nanos_of_counts [] = 0
nanos_of_counts (c ∷ later) = number_of c.digits * weight_of c.part + nanos_of_counts later

-- the text is `0`, or counts in a row, and spells this many nanoseconds
abbrev pub SpellsLength : List ℕ → ℕ → Type 0
SpellsLength text nanos =
    ((text ≡ codes "0") × (nanos ≡ 0))
    ⊎ ((counts : List LengthCount) × (0 < length counts) × IsJoin IsLengthCount text counts
    × AreMeant counts × (nanos ≡ nanos_of_counts counts))
