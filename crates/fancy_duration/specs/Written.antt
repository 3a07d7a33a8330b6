-- The written text of a length, as the crate `fancy-duration` prints it.
use Rattle.std.specs.Prelude.{ℕ, ◌/◌, ◌%◌, not, ◌==◌, List, [], ◌∷◌, ◌++◌, filter, codes, decimal, if◌then◌else◌}
use Rattle.std.specs.List.{join_with_byte}
use Rattle.fancy_duration.specs.Parts.{all_parts, unit_of, weight_of}
use Rattle.fancy_duration.specs.declared.part.DurationPart.{DurationPart}

-- the counts of parts in the nanoseconds that are left, each with its unit, or nothing where it is 0: a count is the quotient of what
-- is left before it
abbrev pub length_words : List DurationPart → ℕ → List (List ℕ)
length_words [] left = []
length_words (part ∷ parts) left =
    (if left / weight_of part == 0 then []
    else ((decimal (left / weight_of part) ++ unit_of part) ∷ []))
    ++ length_words parts (left % weight_of part)

-- `0` for no length, and else its counts from the greatest part on, one space between
unfoldable pub length_text : ℕ → List ℕ
length_text nanos =
    if nanos == 0 then codes "0" else join_with_byte 32 (length_words all_parts nanos)

-- the same without spaces
abbrev pub compact_text : ℕ → List ℕ
compact_text nanos = filter (λ b. not (b == 32)) (length_text nanos)
