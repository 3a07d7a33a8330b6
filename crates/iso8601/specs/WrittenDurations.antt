-- The texts that are written of durations, in the format with designators of ISO 8601-1:2019, 5.5.2:
-- `P1Y2M3DT4H5M6.007S`, `P0D` where every count is 0, and weeks as `P5W` and `P0W`.
use Rattle.std.specs.Prelude.{ℕ, ◌&&◌, List, [], ◌++◌, codes, decimal, ◌==◌, if◌then◌else◌}
use Rattle.scan_core.specs.Padded.{padded_digits}
use Rattle.iso8601.specs.declared.types.Duration.{Duration}
use Rattle.iso8601.specs.declared.types.Duration.TheVariants.{YMDHMS, Weeks}

-- a count and the letter of its unit, or nothing where the count is 0
unfoldable pub count_text : ℕ → List ℕ → List ℕ
count_text count letter = if count == 0 then [] else (decimal count ++ letter)

-- the seconds, with the milliseconds where these aren't 0
unfoldable pub second_text : ℕ → ℕ → List ℕ
second_text second millisecond =
    if millisecond == 0 then count_text second (codes "S")
    else (decimal second ++ (codes "." ++ (padded_digits 3 millisecond ++ codes "S")))

-- the counts that aren't 0, those of a clock behind a `T`, or the weeks
unfoldable pub duration_text : Duration → List ℕ
duration_text (YMDHMS year month day hour minute second millisecond) =
    let no_clock = (hour == 0) && ((minute == 0) && ((second == 0) && (millisecond == 0))) in
    if (year == 0) && ((month == 0) && ((day == 0) && no_clock)) then codes "P0D"
    else (codes "P"
    ++ ((count_text year (codes "Y") ++ (count_text month (codes "M") ++ count_text day (codes "D")))
    ++ (if no_clock then []
    else (codes "T"
    ++ (count_text hour (codes "H")
    ++ (count_text minute (codes "M") ++ second_text second millisecond))))))
duration_text (Weeks weeks) = codes "P" ++ (decimal weeks ++ codes "W")
