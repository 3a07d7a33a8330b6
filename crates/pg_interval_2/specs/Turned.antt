-- Counts with their signs turned: as `ago` at the end of a text in `postgres_verbose` style turns each of its counts.
use Rattle.std.specs.Prelude.{Bool, not, List, map, if◌then◌else◌}
use Rattle.scan_core.specs.Count.{Count, count_of}

-- a sign, turned or not
abbrev pub turned_sign : Bool → Bool → Bool
turned_sign turned negative = if turned then not negative else negative

-- the counts, each with its sign turned or not
abbrev pub turned_counts : Bool → List Count → List Count
turned_counts turned counts =
    map (λ c. count_of (turned_sign turned c.negative) c.whole c.fraction c.unit) counts
