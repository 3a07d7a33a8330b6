-- Lines that ask for a series, after the repeating intervals of ISO 8601-1:2019, 5.6: `R`, digits, a slash, a start, a slash and a step.
-- The repetition without a number is left out.
use Rattle.std.specs.Prelude.{◌≡◌, ℕ, ◌<◌, List, ◌++◌, length, codes, IsUtf8}
use Rattle.scan_core.specs.Digits.{AreDigits}
use Rattle.whole_input.specs.Parts.{HasNo}

-- the text has these parts; the start ends at the second slash of the text
pub record HasParts (text digits start step : List ℕ) : Type 0 where
  pub some : 0 < length digits
  pub digits_alone : AreDigits digits
  pub no_slash : HasNo 47 start
  pub joined : text ≡ codes "R" ++ (digits ++ (codes "/" ++ (start ++ (codes "/" ++ step))))

-- the line is UTF-8 and asks for a series
abbrev pub IsRequest : List ℕ → List ℕ → List ℕ → List ℕ → Type 0
IsRequest line digits start step = IsUtf8 line × HasParts line digits start step
