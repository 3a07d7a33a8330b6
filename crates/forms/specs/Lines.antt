-- The lines of a text: the parts between line feeds. A last empty part is no line, so a text that ends with a line feed
-- has as many lines as line feeds, and a carriage return is a byte as any other.
use Rattle.std.specs.Prelude.{ℕ, List, [], ◌∷◌, ◌==◌, if◌then◌else◌}
use Rattle.std.specs.List.{onto_first}

-- the lines, in order
abbrev pub lines : List ℕ → List (List ℕ)
lines [] = []
lines (byte ∷ bytes) = if byte == 10 then ([] ∷ lines bytes) else onto_first byte (lines bytes)

-- a byte in front of the first line, where there is one
abbrev pub onto_line : ℕ → List (List ℕ) → List (List ℕ)
onto_line byte [] = []
onto_line byte (line ∷ more) = (byte ∷ line) ∷ more

-- the lines that a line feed ends: all lines but one that stands last without its line feed
abbrev pub whole_lines : List ℕ → List (List ℕ)
whole_lines [] = []
whole_lines (byte ∷ bytes) =
    if byte == 10 then ([] ∷ whole_lines bytes) else onto_line byte (whole_lines bytes)
