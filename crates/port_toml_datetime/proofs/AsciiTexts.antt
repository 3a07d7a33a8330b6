-- A text that is a date, a time or both is made of digits, letters, signs, colons, points and spaces, so it is ASCII.
use Rattle.std.proofs.Common.{◌≡◌, ◌⊎◌, ℕ, true, List, [], codes}
use Rattle.std.proofs.Common.{Option, None, Some, refl, sym, subst, inl, inr}
use Rattle.std.specs.List.{list_all}
use Rattle.std.specs.Str.{IsAscii}
use Rattle.scan_core.proofs.AsciiFacts.{Ascii, append, digits, is_small, known, sign_written}
use Rattle.port_toml_datetime.specs.Dates.{IsFullDate}
use Rattle.port_toml_datetime.specs.Datetimes.{IsDateAndTime, IsDatetime}
use Rattle.port_toml_datetime.specs.Offsets.{IsTimeOffset}
use Rattle.port_toml_datetime.specs.Times.{IsSecondFraction, IsSeconds, IsPartialTime}
use Rattle.port_toml_datetime.specs.declared.date.Date.{Date}
use Rattle.port_toml_datetime.specs.declared.time.Time.{Time}
use Rattle.port_toml_datetime.specs.declared.offset.Offset.{Offset}
use Rattle.port_toml_datetime.specs.declared.datetime.Datetime.{Datetime}

same : (text bytes : List ℕ) → text ≡ bytes → list_all is_small bytes ≡ true → Ascii text
same text bytes is h = subst Ascii (sym is) (known bytes h)

-- ---- the parts of a date-time

date_is : (text : List ℕ) (date : Date) → IsFullDate text date → Ascii text
date_is text date h =
    let month = digits h.month_text h.months.digits in
    let behind = append month (append (known (codes "-") refl) (digits h.day_text h.days.digits)) in
    subst Ascii (sym h.joined) (append (digits h.year_text h.years.digits) (append (known (codes "-") refl) behind))

fraction_is : (text : List ℕ) (nanosecond : Option ℕ)
    → ((text ≡ []) × (nanosecond ≡ None)) ⊎ IsSecondFraction text nanosecond → Ascii text
fraction_is text nanosecond (inl h) = same text [] h.0 refl
fraction_is text nanosecond (inr h) = subst Ascii (sym h.joined) (append (known (codes ".") refl) (digits h.digits h.all_digits))

seconds_are : (text : List ℕ) (second nanosecond : Option ℕ)
    → ((text ≡ []) × (second ≡ None) × (nanosecond ≡ None)) ⊎ IsSeconds text second nanosecond → Ascii text
seconds_are text second nanosecond (inl h) = same text [] h.0 refl
seconds_are text second nanosecond (inr h) =
    let number = append (digits h.digits h.field.digits) (fraction_is h.fraction nanosecond h.fractions) in
    subst Ascii (sym h.joined) (append (known (codes ":") refl) number)

time_is : (text : List ℕ) (time : Time) → IsPartialTime text time → Ascii text
time_is text time h =
    let seconds = seconds_are h.second_text time.second time.nanosecond h.seconds in
    let minutes = append (digits h.minute_text h.minutes.digits) seconds in
    subst Ascii (sym h.joined) (append (digits h.hour_text h.hours.digits) (append (known (codes ":") refl) minutes))

offset_is : (text : List ℕ) (offset : Offset) → IsTimeOffset text offset → Ascii text
offset_is text offset (inl (inl h, is)) = same text (codes "Z") h refl
offset_is text offset (inl (inr h, is)) = same text (codes "z") h refl
offset_is text offset (inr h) =
    let behind = append (known (codes ":") refl) (digits h.minute_text h.minutes.digits) in
    subst Ascii (sym h.joined) (append (record { each = sign_written h.negative }) (append (digits h.hour_text h.hours.digits) behind))

delimiter_is : (text : List ℕ) → (text ≡ codes "T") ⊎ ((text ≡ codes "t") ⊎ (text ≡ codes " ")) → Ascii text
delimiter_is text (inl h) = same text (codes "T") h refl
delimiter_is text (inr (inl h)) = same text (codes "t") h refl
delimiter_is text (inr (inr h)) = same text (codes " ") h refl

offset_or_none : (text : List ℕ) (offset : Option Offset)
    → ((text ≡ []) × (offset ≡ None)) ⊎ ((o : Offset) × IsTimeOffset text o × (offset ≡ Some o)) → Ascii text
offset_or_none text offset (inl h) = same text [] h.0 refl
offset_or_none text offset (inr h) = offset_is text h.0 h.1

both_are : (text : List ℕ) (value : Datetime) → IsDateAndTime text value → Ascii text
both_are text value h =
    let time = append (time_is h.time_text h.time h.times) (offset_or_none h.offset_text h.offset h.offsets) in
    subst Ascii (sym h.joined) (append (date_is h.date_text h.date h.dates) (append (delimiter_is h.delimiter h.delimits) time))

pub datetime_is_ascii : (text : List ℕ) (value : Datetime) → IsDatetime text value → IsAscii text
datetime_is_ascii text value (inl h) = (both_are text value h).each
datetime_is_ascii text value (inr (inl h)) = (date_is text h.0 h.1).each
datetime_is_ascii text value (inr (inr h)) = (time_is text h.0 h.1).each
