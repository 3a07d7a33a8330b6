-- The one text that is written of an interval in ISO style: `P1Y2M3DT4H5M6.500000S`, and `PT0S` of zero.
use Rattle.std.specs.Prelude.{ℕ, ℤ, pos, unsigned_abs, Bool, List, [], ◌++◌, codes, decimal, ◌==◌, ◌&&◌, if◌then◌else◌}
use Rattle.std.specs.Ordering.{int_eq}
use Rattle.std.specs.Int.{is_negative}
use Rattle.scan_core.specs.Padded.{padded_digits}
use Rattle.pg_interval_2.specs.IsoText.{iso_part}
use Rattle.scan_core.specs.Number.{minus}
use Rattle.pg_interval_2.specs.inside.PartSteps.{years_of, months_of, hours_of, minutes_of, seconds_of, subsecond_of}

-- the digits of a number, or nothing where it is 0
unfoldable pub nonzero_digits : ℕ → List ℕ
nonzero_digits n = if n == 0 then [] else decimal n

-- seconds with microseconds: `6.500000S`, and `.500000S` of microseconds alone
unfoldable pub iso_decimal : Bool → ℕ → ℕ → List ℕ
iso_decimal negative seconds micros =
    minus negative ++ (nonzero_digits seconds
    ++ (codes "." ++ (padded_digits 6 micros ++ codes "S")))

-- the seconds, with their microseconds where these aren't 0
unfoldable pub iso_seconds : Bool → ℕ → ℕ → List ℕ
iso_seconds negative seconds micros =
    if micros == 0 then iso_part negative seconds (codes "S")
    else iso_decimal negative seconds micros

-- the years, months and days
unfoldable pub iso_date : ℤ → ℤ → List ℕ
iso_date months days =
    iso_part (is_negative months) (years_of months) (codes "Y")
    ++ (iso_part (is_negative months) (months_of months) (codes "M")
    ++ iso_part (is_negative days) (unsigned_abs days) (codes "D"))

-- the time, or nothing where it is 0
unfoldable pub iso_time : ℤ → List ℕ
iso_time micros =
    if int_eq micros (pos 0) then []
    else (codes "T"
    ++ (iso_part (is_negative micros) (hours_of micros) (codes "H")
    ++ (iso_part (is_negative micros) (minutes_of micros) (codes "M")
    ++ iso_seconds (is_negative micros) (seconds_of micros) (subsecond_of micros))))

unfoldable pub iso_steps : ℤ → ℤ → ℤ → List ℕ
iso_steps months days micros =
    if int_eq months (pos 0) && (int_eq days (pos 0) && int_eq micros (pos 0)) then codes "PT0S"
    else (codes "P" ++ (iso_date months days ++ iso_time micros))
