-- The ten parts of a duration, as the crate `fancy-duration` reckons them: a year is 360 days and a
-- month 30.
use Rattle.std.specs.Prelude.{ℕ, ◌*◌, Bool, ◌==◌, List, [], ◌∷◌, codes}
use Rattle.fancy_duration.specs.declared.part.DurationPart.{DurationPart}
use Rattle.fancy_duration.specs.declared.part.DurationPart.TheVariants.{Years, Months, Weeks, Days, Hours, Minutes, Seconds, Milliseconds}
use Rattle.fancy_duration.specs.declared.part.DurationPart.TheVariants.{Microseconds, Nanoseconds}

-- from the greatest to the least
abbrev pub all_parts : List DurationPart
all_parts =
    Years ∷ Months ∷ Weeks ∷ Days ∷ Hours ∷ Minutes ∷ Seconds
    ∷ Milliseconds ∷ Microseconds ∷ Nanoseconds ∷ []

-- nanoseconds in one of the part
abbrev pub weight_of : DurationPart → ℕ
weight_of Years = 360 * 86_400 * 1_000_000_000
weight_of Months = 30 * 86_400 * 1_000_000_000
weight_of Weeks = 7 * 86_400 * 1_000_000_000
weight_of Days = 86_400 * 1_000_000_000
weight_of Hours = 3600 * 1_000_000_000
weight_of Minutes = 60 * 1_000_000_000
weight_of Seconds = 1_000_000_000
weight_of Milliseconds = 1_000_000
weight_of Microseconds = 1_000
weight_of Nanoseconds = 1

-- the unit, which is the letters behind a count of the part; months and minutes have the same
abbrev pub unit_of : DurationPart → List ℕ
unit_of Years = codes "y"
unit_of Months = codes "m"
unit_of Weeks = codes "w"
unit_of Days = codes "d"
unit_of Hours = codes "h"
unit_of Minutes = codes "m"
unit_of Seconds = codes "s"
unit_of Milliseconds = codes "ms"
unit_of Microseconds = codes "us"
unit_of Nanoseconds = codes "ns"

-- places in the order of the parts
abbrev pub rank_of : DurationPart → ℕ
rank_of Years = 0
rank_of Months = 1
rank_of Weeks = 2
rank_of Days = 3
rank_of Hours = 4
rank_of Minutes = 5
rank_of Seconds = 6
rank_of Milliseconds = 7
rank_of Microseconds = 8
rank_of Nanoseconds = 9

-- two parts are one
abbrev pub is_part : DurationPart → DurationPart → Bool
is_part a b = rank_of a == rank_of b
