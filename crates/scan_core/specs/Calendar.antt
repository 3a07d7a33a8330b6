-- The leap years and months of the proleptic Gregorian calendar (ISO 8601-1:2019, 4.2; RFC 3339, appendix C). Years are whole numbers
-- without bounds; the year before 1 is 0.
use Rattle.std.specs.Prelude.{ℕ, ◌%◌, ◌==◌, ◌&&◌, ◌||◌, not, Bool, ℤ, unsigned_abs, if◌then◌else◌}

-- every fourth year, but of the centuries only every fourth
abbrev pub is_leap_year : ℤ → Bool
is_leap_year year =
    let n = unsigned_abs year in (n % 4 == 0) && (not (n % 100 == 0) || (n % 400 == 0))

-- thirty days have April, June, September and November, February has 28 or, in a leap year, 29, and every other month has 31
abbrev pub days_in_month : ℤ → ℕ → ℕ
days_in_month year month =
    if month == 2 then (if is_leap_year year then 29 else 28)
    else (if (month == 4) || (month == 6) || (month == 9) || (month == 11) then 30 else 31)
