-- The one text that is written of an interval in `sql_standard` style (PostgreSQL's manual, section 8.5.5, "Interval Output"):
-- `1-2` of months alone, `3 4:05:06` of days and time, `+1-2 -3 +4:05:06` of all three, and `0` of zero.
use Rattle.std.specs.Prelude.{ℕ, ℤ, pos, unsigned_abs, int_lt, Bool, not, List, ◌++◌, codes, decimal, ◌&&◌, ◌||◌, if◌then◌else◌}
use Rattle.std.specs.Ordering.{int_eq}
use Rattle.std.specs.Int.{is_negative}
use Rattle.scan_core.specs.Number.{minus}
use Rattle.scan_core.specs.Number.{sign_text}
use Rattle.pg_interval_2.specs.inside.PartSteps.{has_negative, years_of, months_of}
use Rattle.pg_interval_2.specs.inside.ClockSteps.{clock_steps}

-- one of the three numbers is positive
abbrev pub has_positive : ℤ → ℤ → ℤ → Bool
has_positive months days micros =
    int_lt (pos 0) months || (int_lt (pos 0) days || int_lt (pos 0) micros)

-- each number has a sign of its own in the text: two of them have opposite signs, or months stand beside days or time
unfoldable pub has_all_signs : ℤ → ℤ → ℤ → Bool
has_all_signs months days micros =
    (has_negative months days micros && has_positive months days micros)
    || (not (int_eq months (pos 0)) && not (int_eq days (pos 0) && int_eq micros (pos 0)))

-- years, a minus and months, by magnitude: `1-2`
unfoldable pub year_month_text : ℤ → List ℕ
year_month_text months = decimal (years_of months) ++ (codes "-" ++ decimal (months_of months))

-- all three numbers, each with its sign
unfoldable pub signed_text : ℤ → ℤ → ℤ → List ℕ
signed_text months days micros =
    (sign_text (is_negative months) ++ year_month_text months)
    ++ (codes " "
    ++ ((sign_text (is_negative days) ++ decimal (unsigned_abs days))
    ++ (codes " " ++ (sign_text (is_negative micros) ++ clock_steps 1 micros))))

-- months alone
unfoldable pub months_text : ℤ → List ℕ
months_text months = minus (is_negative months) ++ year_month_text months

-- days and the time, whose sign is that of the days
unfoldable pub days_text : ℤ → ℤ → List ℕ
days_text days micros =
    (minus (is_negative days) ++ decimal (unsigned_abs days)) ++ (codes " " ++ clock_steps 1 micros)

-- the time alone
unfoldable pub time_text : ℤ → List ℕ
time_text micros = minus (is_negative micros) ++ clock_steps 1 micros

-- where one sign serves the whole text
unfoldable pub plain_text : ℤ → ℤ → ℤ → List ℕ
plain_text months days micros =
    if not (int_eq months (pos 0)) then months_text months
    else if not (int_eq days (pos 0)) then days_text days micros
    else time_text micros

unfoldable pub sql_steps : ℤ → ℤ → ℤ → List ℕ
sql_steps months days micros =
    if int_eq months (pos 0) && (int_eq days (pos 0) && int_eq micros (pos 0)) then codes "0"
    else if has_all_signs months days micros then signed_text months days micros
    else plain_text months days micros
