-- The days of dates in the proleptic Gregorian calendar and in its weeks (ISO 8601-1:2019, 4.2 and 5.2; RFC 3339,
-- appendix C), numbered from 1970-01-01. Years are whole numbers without bounds; the year before 1 is 0.
use Rattle.std.specs.Prelude.{◌≡◌, ℕ, zero, suc, ◌+◌, ◌-◌, ◌≤◌, ℤ, pos, neg_ℤ, ◌+ℤ◌, ◌-ℤ◌, ◌*ℤ◌, ◌<ℤ◌, ◌≤ℤ◌, if◌then◌else◌}
use Rattle.std.specs.Int.{int_div_euclid, int_rem_euclid}
use Rattle.scan_core.specs.Calendar.{is_leap_year, days_in_month}
use Rattle.iso8601.specs.declared.types.Date.{Date}
use Rattle.iso8601.specs.declared.types.Date.TheVariants.{YMD, Week, Ordinal}

-- 365 days, and one more in leap years
abbrev pub days_in_year : ℤ → ℕ
days_in_year year = if is_leap_year year then 366 else 365

-- the days of the first n months of a year
unfoldable pub days_of_months : ℤ → ℕ → ℕ
days_of_months year zero = 0
days_of_months year (suc n) = days_of_months year n + days_in_month year (suc n)

-- how many leap years there are from year 1 to this one; before year 1, less than 0 by those after this year up to year 0
abbrev pub leap_years : ℤ → ℤ
leap_years year =
    (int_div_euclid year (pos 4) -ℤ int_div_euclid year (pos 100)) +ℤ int_div_euclid year (pos 400)

-- 1 January: 365 days for each year since 1970, and one for each leap year between
unfoldable pub new_year : ℤ → ℤ
new_year year =
    (pos 365 *ℤ (year -ℤ pos 1970)) +ℤ (leap_years (year -ℤ pos 1) -ℤ leap_years (pos 1969))

-- how many days after a Monday: day 0 was a Thursday
unfoldable pub after_monday : ℤ → ℤ
after_monday day = int_rem_euclid (day +ℤ pos 3) (pos 7)

-- the Monday of week 1: the one on or before 4 January
unfoldable pub week_one : ℤ → ℤ
week_one year = (new_year year +ℤ pos 3) -ℤ after_monday (new_year year +ℤ pos 3)

-- the number of a date's day, also where there is no such day
abbrev pub day_of : Date → ℤ
day_of (YMD year month day) =
    ((new_year year +ℤ pos (days_of_months year (month - 1))) +ℤ pos day) -ℤ pos 1
day_of (Week year ww d) = ((week_one year +ℤ (pos 7 *ℤ (pos ww -ℤ pos 1))) +ℤ pos d) -ℤ pos 1
day_of (Ordinal year ddd) = (new_year year +ℤ pos ddd) -ℤ pos 1

-- There is such a day: its month or its year has it. A week is of the year in which its Thursday lies, so that years
-- have 52 weeks or 53.
abbrev pub Exists : Date → Type 0
Exists (YMD year month day) =
    (1 ≤ month) × (month ≤ 12) × (1 ≤ day) × (day ≤ days_in_month year month)
Exists (Week year ww d) =
    (1 ≤ ww) × (ww ≤ 53) × (1 ≤ d) × (d ≤ 7)
    × (ww ≡ 53 → day_of (Week year 53 4) <ℤ new_year (year +ℤ pos 1))
Exists (Ordinal year ddd) = (1 ≤ ddd) × (ddd ≤ days_in_year year)

-- a day from -9999-01-01 to 9999-12-31, the days that civil dates have
abbrev pub IsCivilDay : ℤ → Type 0
IsCivilDay day =
    (day_of (YMD (neg_ℤ (pos 9999)) 1 1) ≤ℤ day) × (day ≤ℤ day_of (YMD (pos 9999) 12 31))
