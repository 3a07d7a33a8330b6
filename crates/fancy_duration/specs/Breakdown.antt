-- The breakdown of a length: how many years there are in it, then how many months in what is left,
-- and so on down to nanoseconds.
use Rattle.std.specs.Prelude.{ℕ, ◌+◌, ◌*◌, ◌/◌, ◌%◌, ◌==◌, List, [], ◌∷◌, take, filter, if◌then◌else◌}
use Rattle.std.specs.List.{list_any}
use Rattle.fancy_duration.specs.declared.part.DurationPart.{DurationPart}
use Rattle.fancy_duration.specs.Parts.{all_parts, weight_of, is_part}

-- how many there are of a part
pub record PartCount : Type 0 where
  pub part : DurationPart
  pub count : ℕ

-- the counts of parts in the nanoseconds that are left, each the quotient of what is left before it
abbrev pub counts_of : List DurationPart → ℕ → List PartCount
counts_of [] left = []
counts_of (part ∷ parts) left =
    record { part = part; count = left / weight_of part } ∷ counts_of parts (left % weight_of part)

-- the ten counts of a length
unfoldable pub breakdown : ℕ → List PartCount
breakdown nanos = counts_of all_parts nanos

-- the length that counts make
abbrev pub nanos_in : List PartCount → ℕ
nanos_in [] = 0
nanos_in (c ∷ counts) = c.count * weight_of c.part + nanos_in counts

-- the length that the counts of the parts in the list make, without those of all other parts
unfoldable pub kept_length : List DurationPart → ℕ → ℕ
kept_length kept nanos =
    nanos_in (filter (λ c. list_any (λ part. is_part part c.part) kept) (breakdown nanos))

-- without the zeros before the first count above 0
abbrev pub from_first : List PartCount → List PartCount
from_first [] = []
from_first (c ∷ counts) = if c.count == 0 then from_first counts else c ∷ counts

-- the length that is left where, from the first count above 0 on, `limit` counts stay and all later
-- ones are 0
unfoldable pub front_length : ℕ → ℕ → ℕ
front_length limit nanos = nanos_in (take limit (from_first (breakdown nanos)))

-- how many of a part a length has
abbrev pub count_in : DurationPart → List PartCount → ℕ
count_in part [] = 0
count_in part (c ∷ counts) = if is_part c.part part then c.count else count_in part counts

-- how many of a part a length of nanoseconds has, broken down from the greatest part to the least
unfoldable pub count_of : DurationPart → ℕ → ℕ
count_of part nanos = count_in part (breakdown nanos)
