-- The one text that is written of an interval in `postgres` style: `1 year 2 mons 3 days 04:05:06.500000`, and `00:00:00` of zero.
-- It is words with one space between each two.
use Rattle.std.specs.Prelude.{ℕ, ℤ, pos, unsigned_abs, Bool, not, List, [], ◌∷◌, ◌++◌, codes, decimal, ◌==◌, ◌&&◌, if◌then◌else◌}
use Rattle.std.specs.List.{join_with_byte}
use Rattle.std.specs.Ordering.{int_eq}
use Rattle.std.specs.Int.{is_negative}
use Rattle.scan_core.specs.Number.{minus}
use Rattle.pg_interval_2.specs.inside.PartSteps.{years_of, months_of}
use Rattle.pg_interval_2.specs.inside.ClockSteps.{clock_steps}

-- a name as it stands behind a number: singular at 1 alone, so `1 year`, but `2 years` and `-1 years`
unfoldable pub counted_name : Bool → ℕ → List ℕ → List ℕ
counted_name negative n name = if not negative && n == 1 then name else (name ++ codes "s")

-- a number with its minus, and a word behind it, or no words where it is 0
unfoldable pub number_words : Bool → ℕ → List ℕ → List (List ℕ)
number_words negative n word = if n == 0 then [] else ((minus negative ++ decimal n) ∷ word ∷ [])

-- a number with its minus, and its name, or no words where it is 0
abbrev pub named_words : Bool → ℕ → List ℕ → List (List ℕ)
named_words negative n name = number_words negative n (counted_name negative n name)

-- the time with its minus, or no word where it is 0
unfoldable pub clock_words : ℤ → List (List ℕ)
clock_words micros =
    if int_eq micros (pos 0) then [] else ((minus (is_negative micros) ++ clock_steps 2 micros) ∷ [])

-- the words of years, months, days and the time
abbrev pub postgres_words : ℤ → ℤ → ℤ → List (List ℕ)
postgres_words months days micros =
    named_words (is_negative months) (years_of months) (codes "year")
    ++ (named_words (is_negative months) (months_of months) (codes "mon")
    ++ (named_words (is_negative days) (unsigned_abs days) (codes "day") ++ clock_words micros))

unfoldable pub postgres_steps : ℤ → ℤ → ℤ → List ℕ
postgres_steps months days micros =
    if int_eq months (pos 0) && (int_eq days (pos 0) && int_eq micros (pos 0)) then codes "00:00:00"
    else join_with_byte 32 (postgres_words months days micros)
