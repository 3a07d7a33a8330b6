-- The texts that are written of dates, times and date-times, in the extended format of ISO 8601-1:2019, 5.2 to 5.4:
-- `2015-06-26T16:43:16.123+02:00`. Every value of the fields has one; fields that a clock or a calendar lacks are
-- written with as many digits as they have.
use Rattle.std.specs.Prelude.{ℕ, ℤ, neg_ℤ, unsigned_abs, ◌||◌, List, ◌++◌, codes, if◌then◌else◌}
use Rattle.std.specs.Int.{is_negative}
use Rattle.scan_core.specs.Number.{minus}
use Rattle.scan_core.specs.Padded.{padded_digits}
use Rattle.iso8601.specs.declared.types.Date.{Date}
use Rattle.iso8601.specs.declared.types.Date.TheVariants.{YMD, Week, Ordinal}
use Rattle.iso8601.specs.declared.types.Time.{Time}
use Rattle.iso8601.specs.declared.types.DateTime.{DateTime}

-- the magnitude of a year in at least four digits, behind a minus where the year is negative
unfoldable pub year_text : ℤ → List ℕ
year_text year = minus (is_negative year) ++ padded_digits 4 (unsigned_abs year)

-- `2015-06-26`, `2015-W26-5`, `2015-177`
unfoldable pub date_text : Date → List ℕ
date_text (YMD year month day) =
    year_text year ++ (codes "-" ++ (padded_digits 2 month ++ (codes "-" ++ padded_digits 2 day)))
date_text (Week year ww d) =
    year_text year ++ (codes "-W" ++ (padded_digits 2 ww ++ (codes "-" ++ padded_digits 1 d)))
date_text (Ordinal year ddd) = year_text year ++ (codes "-" ++ padded_digits 3 ddd)

-- `16:43:16.123`
unfoldable pub time_of_day_text : ℕ → ℕ → ℕ → ℕ → List ℕ
time_of_day_text hour minute second millisecond =
    padded_digits 2 hour ++ (codes ":"
    ++ (padded_digits 2 minute ++ (codes ":"
    ++ (padded_digits 2 second ++ (codes "." ++ padded_digits 3 millisecond)))))

-- a number in at least two characters, of which its minus is one
unfoldable pub two_wide : ℤ → List ℕ
two_wide z =
    if is_negative z then (codes "-" ++ padded_digits 1 (unsigned_abs z))
    else padded_digits 2 (unsigned_abs z)

-- The sign is a minus where one of the parts is negative, and under it both parts are written negated:
-- `+05:30`, `-05:30` of -5 and -30, and `-05:-30` of -5 and 30.
unfoldable pub offset_text : ℤ → ℤ → List ℕ
offset_text hours minutes =
    let governed = is_negative hours || is_negative minutes in
    (if governed then codes "-" else codes "+")
    ++ (two_wide (if governed then neg_ℤ hours else hours)
    ++ (codes ":" ++ two_wide (if governed then neg_ℤ minutes else minutes)))

-- `16:43:16.123+02:00`
unfoldable pub time_text : Time → List ℕ
time_text t =
    time_of_day_text t.hour t.minute t.second t.millisecond
    ++ offset_text t.tz_offset_hours t.tz_offset_minutes

-- a date, `T` and a time
unfoldable pub date_time_text : DateTime → List ℕ
date_time_text t = date_text t.date ++ (codes "T" ++ time_text t.time)
