-- Texts of timestamps are ASCII.
use Rattle.std.proofs.Common.{◌≡◌, ℕ, Bool, true, false, ℤ, List, [], ◌∷◌, ◌++◌, codes, Option, Some, None}
use Rattle.std.proofs.Common.{refl, inl, inr}
use Rattle.std.specs.List.{list_all}
use Rattle.std.specs.Str.{IsAscii}
use Rattle.std.proofs.lemmas.Fmt.{IsAscii-from_digits}
use Rattle.std.proofs.lemmas.Str.{IsAscii-append}
use Rattle.scan_core.proofs.AsciiFacts.{is_small, joined, same, small}
use Rattle.pg_timestamp.specs.Pieces.{IsMarkedPair, era_text}
use Rattle.pg_timestamp.specs.Timestamps.{IsMicrosFraction, IsMore, IsPerhapsOffset, IsPerhapsTime, IsTimeOfDay, IsTimestampText}
use Rattle.pg_timestamp.specs.Timestamps.{IsZoneOffset, sign_of}
use Rattle.pg_timestamp.specs.declared.time.Time.{Time}
use Rattle.pg_timestamp.specs.declared.timestamp.Timestamp.{Timestamp}

-- ---- bytes and joins

-- ---- pieces

pair : (mark lo hi : ℕ) → list_all is_small (mark ∷ []) ≡ true
    → (text : List ℕ) (n : ℕ) → IsMarkedPair mark lo hi text n → IsAscii text
pair mark lo hi m text n h = joined text (mark ∷ []) h.0 h.2 (small (mark ∷ []) m) (IsAscii-from_digits h.0 h.1.digits)

era : (bc : Bool) → IsAscii (era_text bc)
era true = small (codes " BC") refl
era false = small [] refl

-- ---- times

fraction : (text : List ℕ) (micros : ℕ) → IsMicrosFraction text micros → IsAscii text
fraction text micros (inl none) = same text [] none.0 (small [] refl)
fraction text micros (inr h) = joined text (codes ".") h.0 h.3 (small (codes ".") refl) (IsAscii-from_digits h.0 h.2)

more : (text : List ℕ) (n : ℕ) → IsMore text n → IsAscii text
more text n (inl none) = same text [] none.0 (small [] refl)
more text n (inr h) = pair 58 0 59 refl text n h

sign : (negative : Bool) → list_all is_small (sign_of negative ∷ []) ≡ true
sign true = refl
sign false = refl

zone_offset : (text : List ℕ) (seconds : ℤ) → IsZoneOffset text seconds → IsAscii text
zone_offset text seconds h =
    joined text h.hour_text (h.minute_text ++ h.second_text) h.joined
    (pair (sign_of h.negative) 0 24 (sign h.negative) h.hour_text h.hour h.hours)
    (IsAscii-append h.minute_text h.second_text (more h.minute_text h.minute h.minutes)
    (more h.second_text h.second h.seconds_are))

perhaps_offset : (text : List ℕ) (offset : Option ℤ) → IsPerhapsOffset text offset → IsAscii text
perhaps_offset text None h = same text [] h (small [] refl)
perhaps_offset text (Some seconds) h = zone_offset text seconds h

time_of_day : (text : List ℕ) (time : Time) → IsTimeOfDay text time → IsAscii text
time_of_day text time h =
    let behind_second : List ℕ = h.fraction_text ++ h.offset_text in
    let behind_minute : List ℕ = h.second_text ++ behind_second in
    let end = IsAscii-append h.fraction_text h.offset_text (fraction h.fraction_text time.micros h.fraction)
    (perhaps_offset h.offset_text time.offset h.offset) in
    let second = IsAscii-append h.second_text behind_second (pair 58 0 60 refl h.second_text time.second h.seconds) end in
    let minute = IsAscii-append h.minute_text behind_minute (pair 58 0 59 refl h.minute_text time.minute h.minutes) second in
    joined text h.hour_text (h.minute_text ++ behind_minute) h.joined (pair 32 0 24 refl h.hour_text time.hour h.hours) minute

perhaps_time : (text : List ℕ) (time : Option Time) → IsPerhapsTime text time → IsAscii text
perhaps_time text None h = same text [] h (small [] refl)
perhaps_time text (Some time) h = time_of_day text time h

-- ---- timestamps

pub timestamp_ascii : (text : List ℕ) (t : Timestamp) → IsTimestampText text t → IsAscii text
timestamp_ascii text t h =
    let behind_day : List ℕ = h.time_text ++ era_text t.date.bc in
    let behind_month : List ℕ = h.day_text ++ behind_day in
    let time = IsAscii-append h.time_text (era_text t.date.bc) (perhaps_time h.time_text t.time h.times) (era t.date.bc) in
    let day = IsAscii-append h.day_text behind_day (pair 45 1 31 refl h.day_text t.date.day h.days) time in
    let month = IsAscii-append h.month_text behind_month (pair 45 1 12 refl h.month_text t.date.month h.months) day in
    joined text h.year_text (h.month_text ++ behind_month) h.joined (IsAscii-from_digits h.year_text h.years.digits) month
