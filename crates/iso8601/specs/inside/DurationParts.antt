-- Parts of the texts of durations by names that private contracts alone cite.
use Rattle.std.specs.Prelude.{ℕ, Bool, ◌&&◌, List, [], ◌++◌, codes, ◌==◌, if◌then◌else◌}
use Rattle.iso8601.specs.WrittenDurations.{count_text, second_text}

-- the four counts of a clock are 0
abbrev pub are_zero : ℕ → ℕ → ℕ → ℕ → Bool
are_zero hour minute second millisecond =
    (hour == 0) && ((minute == 0) && ((second == 0) && (millisecond == 0)))

-- `T` and the counts of a clock that aren't 0, or nothing where all are
unfoldable pub clock_counts_text : ℕ → ℕ → ℕ → ℕ → List ℕ
clock_counts_text hour minute second millisecond =
    if are_zero hour minute second millisecond then []
    else (codes "T" ++ (count_text hour (codes "H") ++ (count_text minute (codes "M")
    ++ second_text second millisecond)))

-- the counts of a date that aren't 0
unfoldable pub date_counts_text : ℕ → ℕ → ℕ → List ℕ
date_counts_text year month day =
    count_text year (codes "Y") ++ (count_text month (codes "M") ++ count_text day (codes "D"))
