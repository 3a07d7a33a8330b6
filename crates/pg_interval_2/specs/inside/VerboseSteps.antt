-- The one text that is written of an interval in `postgres_verbose` style (PostgreSQL's manual, section 8.5.5, "Interval Output"):
-- `@ 1 year 2 mons -3 days 4 hours 5 mins 6.5 secs`, and `@ 0` of zero. Behind the `@` each word stands behind a space.
use Rattle.std.specs.Prelude.{ℕ, ℤ, pos, unsigned_abs, int_lt, Bool, not, false, List, [], ◌∷◌, ◌++◌, codes, decimal, ◌==◌, ◌&&◌}
use Rattle.std.specs.Prelude.{if◌then◌else◌}
use Rattle.std.specs.Ordering.{int_eq}
use Rattle.std.specs.Int.{is_negative}
use Rattle.scan_core.specs.Padded.{padded_digits, trimmed_digits}
use Rattle.scan_core.specs.Number.{minus}
use Rattle.pg_interval_2.specs.inside.PartSteps.{has_negative, years_of, months_of, hours_of, minutes_of, seconds_of, subsecond_of}
use Rattle.pg_interval_2.specs.inside.PostgresSteps.{counted_name, number_words}
use Rattle.pg_interval_2.specs.Turned.{turned_sign}

-- each word behind a space
abbrev pub behind_spaces : List (List ℕ) → List ℕ
behind_spaces [] = []
behind_spaces (word ∷ more) = codes " " ++ (word ++ behind_spaces more)

-- `ago` ends the text, and the sign of each part is turned: one of the three numbers is negative, and the time isn't positive
unfoldable pub has_ago : ℤ → ℤ → ℤ → Bool
has_ago months days micros = not (int_lt (pos 0) micros) && has_negative months days micros

-- a part's number and its name, which is singular at 1 and -1, or no words where it is 0
abbrev pub unit_words : Bool → ℕ → List ℕ → List (List ℕ)
unit_words negative n name = number_words negative n (counted_name false n name)

-- seconds with microseconds as one exact decimal without zeros at its end: `6.5`
unfoldable pub second_digits : ℕ → ℕ → List ℕ
second_digits seconds micros =
    decimal seconds ++ (codes "." ++ trimmed_digits (padded_digits 6 micros))

-- the seconds with their microseconds, where these aren't 0
unfoldable pub second_words : Bool → ℕ → ℕ → List (List ℕ)
second_words negative seconds micros =
    if micros == 0 then unit_words negative seconds (codes "sec")
    else ((minus negative ++ second_digits seconds micros) ∷ codes "secs" ∷ [])

-- the years, months and days, each with its sign, turned or not
unfoldable pub verbose_date : Bool → ℤ → ℤ → List ℕ
verbose_date ago months days =
    behind_spaces
    (unit_words (turned_sign ago (is_negative months)) (years_of months) (codes "year"))
    ++ (behind_spaces
    (unit_words (turned_sign ago (is_negative months)) (months_of months) (codes "mon"))
    ++ behind_spaces
    (unit_words (turned_sign ago (is_negative days)) (unsigned_abs days) (codes "day")))

-- the hours, minutes and seconds, with their sign, turned or not
unfoldable pub verbose_time : Bool → ℤ → List ℕ
verbose_time ago micros =
    behind_spaces
    (unit_words (turned_sign ago (is_negative micros)) (hours_of micros) (codes "hour"))
    ++ (behind_spaces
    (unit_words (turned_sign ago (is_negative micros)) (minutes_of micros) (codes "min"))
    ++ behind_spaces
    (second_words (turned_sign ago (is_negative micros)) (seconds_of micros) (subsecond_of micros)))

-- the text of an interval that isn't zero
unfoldable pub parts_text : Bool → ℤ → ℤ → ℤ → List ℕ
parts_text ago months days micros =
    codes "@"
    ++ (verbose_date ago months days
    ++ (verbose_time ago micros ++ (if ago then codes " ago" else [])))

unfoldable pub verbose_steps : ℤ → ℤ → ℤ → List ℕ
verbose_steps months days micros =
    if int_eq months (pos 0) && (int_eq days (pos 0) && int_eq micros (pos 0)) then codes "@ 0"
    else parts_text (has_ago months days micros) months days micros
