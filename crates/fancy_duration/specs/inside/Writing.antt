-- What the loops over the ten parts have still to sum, and what the writers put.
use Rattle.std.specs.Prelude.{ℕ, ◌/◌, ◌%◌, ◌^◌, ◌||◌, ◌&&◌, not, nat_lt, Bool, true, List, [], ◌∷◌, ◌++◌, filter, map, codes, decimal, ◌==◌}
use Rattle.std.specs.Prelude.{if◌then◌else◌}
use Rattle.std.specs.List.{join_with_byte, list_any}
use Rattle.fancy_duration.specs.declared.part.DurationPart.{DurationPart}
use Rattle.fancy_duration.specs.declared.part.DurationPart.TheVariants.{Years, Months, Weeks, Days, Hours, Minutes, Seconds, Milliseconds}
use Rattle.fancy_duration.specs.declared.part.DurationPart.TheVariants.{Microseconds, Nanoseconds}
use Rattle.fancy_duration.specs.Parts.{unit_of, weight_of, is_part}
use Rattle.fancy_duration.specs.Breakdown.{PartCount, breakdown, counts_of, nanos_in}

-- a count and its unit
abbrev pub piece : PartCount → List ℕ
piece c = decimal c.count ++ unit_of c.part

-- the counts above 0
abbrev pub above_zero : List PartCount → List PartCount
above_zero counts = filter (λ c. nat_lt 0 c.count) counts

-- the written text by the counts of the ten parts
unfoldable pub length_steps : ℕ → List ℕ
length_steps nanos =
    if nanos == 0 then codes "0" else join_with_byte 32 (map piece (above_zero (breakdown nanos)))

-- each count is in 64 bits
abbrev pub counts_fit : List PartCount → Bool
counts_fit [] = true
counts_fit (c ∷ counts) = nat_lt c.count (2 ^ 64) && counts_fit counts

-- the nanoseconds of the kept parts among these
unfoldable pub kept_in : List DurationPart → List DurationPart → ℕ → ℕ
kept_in kept parts left =
    nanos_in (filter (λ c. list_any (λ part. is_part part c.part) kept) (counts_of parts left))

-- what is left of a length without the counts of these parts
abbrev pub left_after : List DurationPart → ℕ → ℕ
left_after [] left = left
left_after (part ∷ parts) left = left_after parts (left % weight_of part)

-- a count above 0 and its unit, behind a space where a count stands before it
unfoldable pub count_behind : Bool → ℕ → DurationPart → List ℕ
count_behind begun count part =
    if count == 0 then [] else ((if begun then 32 ∷ [] else []) ++ (decimal count ++ unit_of part))

-- the counts of parts, by their weights, in what is left, where a count stands before them or none
abbrev pub counts_behind : (DurationPart → ℕ) → Bool → List DurationPart → ℕ → List ℕ
counts_behind weight begun [] left = []
counts_behind weight begun (part ∷ parts) left =
    count_behind begun (left / weight part) part
    ++ counts_behind weight (begun || not (left / weight part == 0)) parts (left % weight part)

-- the parts of whole seconds, and those below a second
abbrev pub long_parts : List DurationPart
long_parts = Years ∷ Months ∷ Weeks ∷ Days ∷ Hours ∷ Minutes ∷ Seconds ∷ []

abbrev pub short_parts : List DurationPart
short_parts = Milliseconds ∷ Microseconds ∷ Nanoseconds ∷ []

-- seconds in one of a part
abbrev pub seconds_of : DurationPart → ℕ
seconds_of part = weight_of part / 1_000_000_000
