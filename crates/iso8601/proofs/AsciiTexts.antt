-- Texts of dates, times, date-times and durations are ASCII.
use Rattle.std.proofs.Common.{◌≡◌, ◌⊎◌, ℕ, Bool, true, false, ℤ, List, [], ◌++◌, codes}
use Rattle.std.proofs.Common.{refl, inl, inr}
use Rattle.std.specs.List.{list_all}
use Rattle.std.specs.Str.{IsAscii}
use Rattle.std.proofs.lemmas.Fmt.{IsAscii-from_digits}
use Rattle.std.proofs.lemmas.Str.{IsAscii-append}
use Rattle.scan_core.specs.Number.{IsSign, sign_text}
use Rattle.scan_core.proofs.AsciiFacts.{field, is_small, joined, same, sign_written, small}
use Rattle.iso8601.specs.Dates.{IsDate, IsMonthDay, IsWeekDay}
use Rattle.iso8601.specs.DateTimes.{IsDateTime}
use Rattle.iso8601.specs.Durations.{IsCount, IsCounted, IsDated, IsDecimal, IsDuration, IsDurationClock}
use Rattle.iso8601.specs.Fields.{IsMarked, IsOrZero, IsYear}
use Rattle.iso8601.specs.Times.{IsMilliseconds, IsOffset, IsSignedOffset, IsTime}
use Rattle.iso8601.specs.declared.types.Date.{Date}
use Rattle.iso8601.specs.declared.types.DateTime.{DateTime}
use Rattle.iso8601.specs.declared.types.Duration.{Duration}
use Rattle.iso8601.specs.declared.types.Time.{Time}
use Rattle.iso8601.specs.inside.GrammarParts.{IsBody, IsDayOf, IsPerhapsClock, IsPoint, IsSeconds}

-- ---- bytes and joins

perhaps : (text mark : List ℕ) → list_all is_small mark ≡ true → (text ≡ []) ⊎ (text ≡ mark) → IsAscii text
perhaps text mark h (inl none) = same text [] none (small [] refl)
perhaps text mark h (inr is) = same text mark is (small mark h)

perhaps_zero : (Is : List ℕ → ℕ → Type 0) → ((text : List ℕ) (value : ℕ) → Is text value → IsAscii text)
    → (text : List ℕ) (value : ℕ) → IsOrZero Is text value → IsAscii text
perhaps_zero Is all text value (inl none) = same text [] none.0 (small [] refl)
perhaps_zero Is all text value (inr is) = all text value is

-- ---- fields

marked : (mark : List ℕ) (count lo hi : ℕ) → list_all is_small mark ≡ true
    → (text : List ℕ) (value : ℕ) → IsMarked mark count lo hi text value → IsAscii text
marked mark count lo hi m text value h =
    joined text h.front h.digits h.joined (perhaps h.front mark m h.perhaps) (field count lo hi h.digits value h.field)

sign : (negative : Bool) (text : List ℕ) → IsSign true negative text → IsAscii text
sign true text h = same text (codes "-") h (small (codes "-") refl)
sign false text (inl h) = same text [] h (small [] refl)
sign false text (inr h) = same text (codes "+") h.1 (small (codes "+") refl)

year : (text : List ℕ) (value : ℤ) → IsYear text value → IsAscii text
year text value h =
    joined text h.sign h.digits h.joined (sign h.negative h.sign h.signs) (field 4 0 9999 h.digits h.magnitude h.four)

-- ---- dates

month_day : (y : ℤ) (text : List ℕ) (date : Date) → IsMonthDay y text date → IsAscii text
month_day y text date h =
    joined text h.month_text h.day_text h.joined (field 2 1 12 h.month_text h.month h.months)
    (marked (codes "-") 2 1 31 refl h.day_text h.day h.days)

week_day : (y : ℤ) (text : List ℕ) (date : Date) → IsWeekDay y text date → IsAscii text
week_day y text date h =
    joined text (codes "W") (h.week_text ++ h.day_text) h.joined (small (codes "W") refl)
    (IsAscii-append h.week_text h.day_text (field 2 1 53 h.week_text h.week h.weeks)
    (marked (codes "-") 1 1 7 refl h.day_text h.day h.days))

day : (y : ℤ) (text : List ℕ) (date : Date) → IsDayOf y text date → IsAscii text
day y text date (inl h) = month_day y text date h
day y text date (inr (inl h)) = week_day y text date h
day y text date (inr (inr h)) = field 3 1 366 text h.0 h.1

pub date_ascii : (text : List ℕ) (date : Date) → IsDate text date → IsAscii text
date_ascii text date h =
    joined text h.year_text (h.hyphen ++ h.day_text) h.joined (year h.year_text h.year h.years)
    (IsAscii-append h.hyphen h.day_text (perhaps h.hyphen (codes "-") refl h.mark) (day h.year h.day_text date h.days))

-- ---- times

point : (text : List ℕ) → IsPoint text → IsAscii text
point text (inl h) = same text (codes ".") h (small (codes ".") refl)
point text (inr h) = same text (codes ",") h (small (codes ",") refl)

millis : (text : List ℕ) (value : ℕ) → IsMilliseconds text value → IsAscii text
millis text value h = joined text h.point h.digits h.joined (point h.point h.mark) (IsAscii-from_digits h.digits h.all_digits)

signed_offset : (text : List ℕ) (offset : ℤ × ℤ) → IsSignedOffset text offset → IsAscii text
signed_offset text offset h =
    joined text (sign_text h.negative) (h.hour_text ++ h.minute_text) h.joined (sign_written h.negative)
    (IsAscii-append h.hour_text h.minute_text (field 2 0 24 h.hour_text h.hour h.hours)
    (perhaps_zero (IsMarked (codes ":") 2 0 59) (marked (codes ":") 2 0 59 refl) h.minute_text h.minute h.minutes))

offset_ascii : (text : List ℕ) (offset : ℤ × ℤ) → IsOffset text offset → IsAscii text
offset_ascii text offset (inl h) = same text [] h.0 (small [] refl)
offset_ascii text offset (inr (inl h)) = same text (codes "Z") h.0 (small (codes "Z") refl)
offset_ascii text offset (inr (inr h)) = signed_offset text offset h

time_ascii : (text : List ℕ) (time : Time) → IsTime text time → IsAscii text
time_ascii text time h =
    let end = IsAscii-append h.fraction h.offset (perhaps_zero IsMilliseconds millis h.fraction time.millisecond h.fractions)
    (offset_ascii h.offset (time.tz_offset_hours, time.tz_offset_minutes) h.offsets) in
    let seconds = perhaps_zero (IsMarked (codes ":") 2 0 60) (marked (codes ":") 2 0 60 refl) h.second_text time.second h.seconds in
    let minutes = marked (codes ":") 2 0 59 refl h.minute_text time.minute h.minutes in
    joined text h.hour_text (h.minute_text ++ (h.second_text ++ (h.fraction ++ h.offset))) h.joined
    (field 2 0 24 h.hour_text time.hour h.hours)
    (IsAscii-append h.minute_text (h.second_text ++ (h.fraction ++ h.offset)) minutes
    (IsAscii-append h.second_text (h.fraction ++ h.offset) seconds end))

with_time : (time_text : List ℕ) (time : Time) → IsTime time_text time → IsAscii (codes "T" ++ time_text)
with_time time_text time h = IsAscii-append (codes "T") time_text (small (codes "T") refl) (time_ascii time_text time h)

pub date_time_ascii : (text : List ℕ) (t : DateTime) → IsDateTime text t → IsAscii text
date_time_ascii text t h =
    joined text h.date_text (codes "T" ++ h.time_text) h.joined (date_ascii h.date_text t.date h.dates)
    (with_time h.time_text t.time h.times)

-- ---- durations

count : (unit : List ℕ) → list_all is_small unit ≡ true → (text : List ℕ) (value : ℕ) → IsCount unit text value → IsAscii text
count unit u text value h = joined text h.digits unit h.joined (IsAscii-from_digits h.digits h.number.all_digits) (small unit u)

perhaps_count : (unit : List ℕ) → list_all is_small unit ≡ true
    → (text : List ℕ) (value : ℕ) → IsOrZero (IsCount unit) text value → IsAscii text
perhaps_count unit u text value h = perhaps_zero (IsCount unit) (count unit u) text value h

decimal_ascii : (text : List ℕ) (value : ℕ × ℕ) → IsDecimal text value → IsAscii text
decimal_ascii text value h =
    joined text h.digits (h.fraction ++ codes "S") h.joined (IsAscii-from_digits h.digits h.number.all_digits)
    (IsAscii-append h.fraction (codes "S") (millis h.fraction value.1 h.millis) (small (codes "S") refl))

seconds_ascii : (text : List ℕ) (value : ℕ × ℕ) → IsSeconds text value → IsAscii text
seconds_ascii text value (inl h) = perhaps_count (codes "S") refl text value.0 h.0
seconds_ascii text value (inr h) = decimal_ascii text value h

clock : (text : List ℕ) (value : ℕ × (ℕ × (ℕ × ℕ))) → IsDurationClock text value → IsAscii text
clock text value h =
    let minutes = IsAscii-append h.minute_text h.second_text (perhaps_count (codes "M") refl h.minute_text value.1.0 h.minutes)
    (seconds_ascii h.second_text value.1.1 h.seconds) in
    let hours = IsAscii-append h.hour_text (h.minute_text ++ h.second_text)
    (perhaps_count (codes "H") refl h.hour_text value.0 h.hours) minutes in
    joined text (codes "T") (h.hour_text ++ (h.minute_text ++ h.second_text)) h.joined (small (codes "T") refl) hours

perhaps_clock : (text : List ℕ) (value : ℕ × (ℕ × (ℕ × ℕ))) → IsPerhapsClock text value → IsAscii text
perhaps_clock text value (inl none) = same text [] none.0 (small [] refl)
perhaps_clock text value (inr h) = clock text value h

counted : (text : List ℕ) (d : Duration) → IsCounted text d → IsAscii text
counted text d h =
    let days = IsAscii-append h.day_text h.clock_text (perhaps_count (codes "D") refl h.day_text h.day h.days)
    (perhaps_clock h.clock_text h.clock h.clocks) in
    let months = IsAscii-append h.month_text (h.day_text ++ h.clock_text)
    (perhaps_count (codes "M") refl h.month_text h.month h.months) days in
    joined text h.year_text (h.month_text ++ (h.day_text ++ h.clock_text)) h.joined
    (perhaps_count (codes "Y") refl h.year_text h.year h.years) months

dated : (text : List ℕ) (d : Duration) → IsDated text d → IsAscii text
dated text d h =
    let days = IsAscii-append h.day_text (codes "T" ++ h.time_text) (marked (codes "-") 2 1 31 refl h.day_text h.day h.days)
    (with_time h.time_text h.time h.times) in
    let months = IsAscii-append h.month_text (h.day_text ++ (codes "T" ++ h.time_text))
    (marked (codes "-") 2 1 12 refl h.month_text h.month h.months) days in
    joined text h.year_text (h.month_text ++ (h.day_text ++ (codes "T" ++ h.time_text))) h.joined
    (field 4 0 9999 h.year_text h.year h.years) months

body : (text : List ℕ) (d : Duration) → IsBody text d → IsAscii text
body text d (inl h) = count (codes "W") refl text h.0 h.1
body text d (inr (inl h)) = counted text d h
body text d (inr (inr h)) = dated text d h

pub duration_ascii : (text : List ℕ) (d : Duration) → IsDuration text d → IsAscii text
duration_ascii text d h = joined text (codes "P") h.0 h.2 (small (codes "P") refl) (body h.0 d h.1)
