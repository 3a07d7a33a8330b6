-- Where the text of a line stands.
use Rattle.std.specs.Prelude.{◌≡◌, List, ℕ, []}
use Rattle.text_lines.specs.declared.place.Place.{Place}
use Rattle.text_lines.specs.declared.place.Place.TheVariants.{Whole, Field, Word}
use Rattle.text_lines.specs.Fields.{IsField}
use Rattle.text_lines.specs.Spaced.{IsWord}

-- a line is what stands in front of a place, the text there, and what stands behind it
abbrev pub IsPlace : Place → List ℕ → List ℕ → List ℕ → List ℕ → Type 0
IsPlace Whole line before text after = (before ≡ []) × (text ≡ line) × (after ≡ [])
IsPlace (Field n) line before text after = IsField n line before text after
IsPlace (Word n) line before text after = IsWord n line before text after

-- the line has no such place
abbrev pub HasNoPlace : Place → List ℕ → Type 0
HasNoPlace place line = (before text after : List ℕ) → IsPlace place line before text after → ⊥
