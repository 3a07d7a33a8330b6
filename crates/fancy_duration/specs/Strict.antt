-- The strict texts, which are nothing but counts: `0`, or one or more of digits, a unit, and any
-- number of blanks. Behind a unit stands a digit, a blank or the end, so the letters of a unit are
-- a maximal run.
use Rattle.std.specs.Prelude.{◌≡◌, ℕ, ◌<◌, ◌⊎◌, List, ◌++◌, length, codes, IsTrue}
use Rattle.std.specs.List.{list_all}
use Rattle.scan_core.specs.Digits.{AreDigits}
use Rattle.scan_core.specs.Join.{IsJoin}
use Rattle.scan_core.specs.Blanks.{is_blank}
use Rattle.fancy_duration.specs.declared.part.DurationPart.{DurationPart}
use Rattle.fancy_duration.specs.Parts.{unit_of}

-- a number, the part's unit and the blanks behind it
pub record IsCount (piece : List ℕ) (part : DurationPart) : Type 0 where
  pub digits : List ℕ
  pub blanks : List ℕ
  pub some_digits : 0 < length digits
  pub are_digits : AreDigits digits
  pub are_blanks : IsTrue (list_all is_blank blanks)
  pub joined : piece ≡ digits ++ (unit_of part ++ blanks)

-- the text is `0`, or a join of one count or more
abbrev pub IsStrict : List ℕ → Type 0
IsStrict text =
    (text ≡ codes "0")
    ⊎ ((parts : List DurationPart) × (0 < length parts) × IsJoin IsCount text parts)
