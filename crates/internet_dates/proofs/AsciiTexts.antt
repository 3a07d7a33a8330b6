-- Texts of dates of HTTP and of mail are ASCII.
use Rattle.std.proofs.Common.{◌≡◌, ◌⊎◌, ℕ, zero, suc, ◌-◌, true, ℤ, List, [], ◌∷◌, ◌++◌, codes, Option}
use Rattle.std.proofs.Common.{refl, inl, inr, arith}
use Rattle.std.specs.Prelude.{get_or}
use Rattle.std.specs.List.{list_all}
use Rattle.std.specs.Str.{IsAscii}
use Rattle.std.proofs.lemmas.Bool.{and_parts}
use Rattle.std.proofs.lemmas.Bool.Decides.{nat_tests}
use Rattle.std.proofs.lemmas.Str.{IsAscii-append}
use Rattle.scan_core.specs.Fields.{IsField}
use Rattle.scan_core.specs.Number.{sign_text}
use Rattle.scan_core.proofs.AsciiFacts.{field, is_small, joined, same, sign_written, small}
use Rattle.internet_dates.specs.Fields.{IsFullClock, IsShortClock}
use Rattle.internet_dates.specs.HttpDate.{IsAsctimeDate, IsFixdate, IsHttpDate, IsPaddedDay}
use Rattle.internet_dates.specs.MailDate.{IsComment, IsMailDate, IsNamedFront, IsNumericZone, IsZone, is_comment_byte}
use Rattle.internet_dates.specs.Names.{IsDayName, IsMonthName, IsZoneName, day_names, month_names, zone_names}
use Rattle.internet_dates.specs.declared.date_time.DateTime.{DateTime}

-- ---- bytes and joins

-- a mark, and more behind it
marked : (mark rest : List ℕ) → list_all is_small mark ≡ true → IsAscii rest → IsAscii (mark ++ rest)
marked mark rest m h = IsAscii-append mark rest (small mark m) h

-- ---- names

small_name : (names : List (List ℕ)) → list_all (λ name. list_all is_small name) names ≡ true
    → (n : ℕ) → IsAscii (get_or names n [])
small_name [] h n = small [] refl
small_name (name ∷ names) h zero =
    small name (and_parts (list_all is_small name) (list_all (λ name. list_all is_small name) names) h).0
small_name (name ∷ names) h (suc n) =
    small_name names (and_parts (list_all is_small name) (list_all (λ name. list_all is_small name) names) h).1 n

day_name_ascii : (text : List ℕ) (weekday : ℕ) → IsDayName text weekday → IsAscii text
day_name_ascii text weekday h = same text (get_or day_names weekday []) h.1 (small_name day_names refl weekday)

month_name_ascii : (text : List ℕ) (month : ℕ) → IsMonthName text month → IsAscii text
month_name_ascii text month h = same text (get_or month_names (month - 1) []) h.2 (small_name month_names refl (month - 1))

zone_name_ascii : (text : List ℕ) (minutes : ℤ) → IsZoneName text minutes → IsAscii text
zone_name_ascii text minutes h = same text (get_or zone_names h.0 []) h.2 (small_name zone_names refl h.0)

-- ---- fields and clocks

short_clock : (text : List ℕ) (hour minute second : ℕ) → IsShortClock text hour minute second → IsAscii text
short_clock text hour minute second h =
    joined text h.hour_text (codes ":" ++ h.minute_text) h.joined (field 2 0 24 h.hour_text hour h.hours)
    (marked (codes ":") h.minute_text refl (field 2 0 59 h.minute_text minute h.minutes))

full_clock : (text : List ℕ) (hour minute second : ℕ) → IsFullClock text hour minute second → IsAscii text
full_clock text hour minute second h =
    let behind_minutes : List ℕ = codes ":" ++ h.second_text in
    let minutes = IsAscii-append h.minute_text behind_minutes (field 2 0 59 h.minute_text minute h.minutes)
    (marked (codes ":") h.second_text refl (field 2 0 60 h.second_text second h.seconds)) in
    joined text h.hour_text (codes ":" ++ (h.minute_text ++ behind_minutes)) h.joined (field 2 0 24 h.hour_text hour h.hours)
    (marked (codes ":") (h.minute_text ++ behind_minutes) refl minutes)

-- ---- dates of HTTP

fixdate : (text : List ℕ) (t : DateTime) → IsFixdate text t → IsAscii text
fixdate text t h =
    let behind_year : List ℕ = codes " " ++ (h.clock ++ codes " GMT") in
    let behind_month : List ℕ = codes " " ++ (h.year_text ++ behind_year) in
    let behind_day : List ℕ = codes " " ++ (h.month ++ behind_month) in
    let clock = marked (codes " ") (h.clock ++ codes " GMT") refl (IsAscii-append h.clock (codes " GMT")
    (full_clock h.clock t.hour t.minute t.second h.clocks) (small (codes " GMT") refl)) in
    let year = marked (codes " ") (h.year_text ++ behind_year) refl (IsAscii-append h.year_text behind_year
    (field 4 0 9999 h.year_text t.year h.years) clock) in
    let month = marked (codes " ") (h.month ++ behind_month) refl (IsAscii-append h.month behind_month
    (month_name_ascii h.month t.month h.months) year) in
    let day = marked (codes ", ") (h.day_text ++ behind_day) refl (IsAscii-append h.day_text behind_day
    (field 2 1 31 h.day_text t.day h.days) month) in
    joined text h.name (codes ", " ++ (h.day_text ++ behind_day)) h.joined (day_name_ascii h.name h.weekday h.names) day

padded_day : (text : List ℕ) (day : ℕ) → IsPaddedDay text day → IsAscii text
padded_day text day (inl h) = field 2 1 31 text day h
padded_day text day (inr h) = same text (codes " " ++ h.0) h.2 (marked (codes " ") h.0 refl (field 1 1 9 h.0 day h.1))

asctime_date : (text : List ℕ) (t : DateTime) → IsAsctimeDate text t → IsAscii text
asctime_date text t h =
    let behind_clock : List ℕ = codes " " ++ h.year_text in
    let behind_day : List ℕ = codes " " ++ (h.clock ++ behind_clock) in
    let behind_month : List ℕ = codes " " ++ (h.day_text ++ behind_day) in
    let year = marked (codes " ") h.year_text refl (field 4 0 9999 h.year_text t.year h.years) in
    let clock = marked (codes " ") (h.clock ++ behind_clock) refl (IsAscii-append h.clock behind_clock
    (full_clock h.clock t.hour t.minute t.second h.clocks) year) in
    let day = marked (codes " ") (h.day_text ++ behind_day) refl (IsAscii-append h.day_text behind_day
    (padded_day h.day_text t.day h.days) clock) in
    let month = marked (codes " ") (h.month ++ behind_month) refl (IsAscii-append h.month behind_month
    (month_name_ascii h.month t.month h.months) day) in
    joined text h.name (codes " " ++ (h.month ++ behind_month)) h.joined (day_name_ascii h.name h.weekday h.names) month

pub http_date_ascii : (text : List ℕ) (t : DateTime) → IsHttpDate text t → IsAscii text
http_date_ascii text t (inl h) = fixdate text t h
http_date_ascii text t (inr h) = asctime_date text t h

-- ---- dates of mail

named_front : (text : List ℕ) (named : Option ℕ) → IsNamedFront text named → IsAscii text
named_front text named (inl none) = same text [] none.0 (small [] refl)
named_front text named (inr h) = joined text h.0 (codes ", ") h.4 (day_name_ascii h.0 h.1 h.2) (small (codes ", ") refl)

numeric_zone : (text : List ℕ) (offset : ℤ) → IsNumericZone text offset → IsAscii text
numeric_zone text offset h =
    joined text (sign_text h.negative) (h.hour_text ++ h.minute_text) h.joined (sign_written h.negative)
    (IsAscii-append h.hour_text h.minute_text (field 2 0 24 h.hour_text h.hour h.hours)
    (field 2 0 59 h.minute_text h.minute h.minutes))

zone_ascii : (text : List ℕ) (offset : ℤ) → IsZone text offset → IsAscii text
zone_ascii text offset (inl h) = numeric_zone text offset h
zone_ascii text offset (inr (inl h)) = same text (codes "UT") h.0 (small (codes "UT") refl)
zone_ascii text offset (inr (inr h)) = zone_name_ascii text offset h

-- printable ASCII is ASCII
comment_byte : (b : ℕ) → is_comment_byte b ≡ true → is_small b ≡ true
comment_byte b h = grind (arith, nat_tests)

comment_bytes : (bytes : List ℕ) → list_all is_comment_byte bytes ≡ true → list_all is_small bytes ≡ true
comment_bytes [] h = refl
comment_bytes (b ∷ bs) h =
    let parts = and_parts (is_comment_byte b) (list_all is_comment_byte bs) h in
    let first = comment_byte b parts.0 in
    let rest = comment_bytes bs parts.1 in
    rw (first, rest) refl

comment_ascii : (text : List ℕ) → IsComment text → IsAscii text
comment_ascii text (inl none) = same text [] none (small [] refl)
comment_ascii text (inr h) =
    joined text (codes " (") (h.0 ++ codes ")") h.2 (small (codes " (") refl)
    (IsAscii-append h.0 (codes ")") (small h.0 (comment_bytes h.0 h.1)) (small (codes ")") refl))

mail_day : (text : List ℕ) (day : ℕ) → IsField 2 1 31 text day ⊎ IsField 1 1 9 text day → IsAscii text
mail_day text day (inl h) = field 2 1 31 text day h
mail_day text day (inr h) = field 1 1 9 text day h

mail_clock : (text : List ℕ) (hour minute second : ℕ) → IsFullClock text hour minute second ⊎ IsShortClock text hour minute second
    → IsAscii text
mail_clock text hour minute second (inl h) = full_clock text hour minute second h
mail_clock text hour minute second (inr h) = short_clock text hour minute second h

pub mail_date_ascii : (text : List ℕ) (t : DateTime) → IsMailDate text t → IsAscii text
mail_date_ascii text t h =
    let behind_clock : List ℕ = codes " " ++ (h.zone ++ h.comment) in
    let behind_year : List ℕ = codes " " ++ (h.clock ++ behind_clock) in
    let behind_month : List ℕ = codes " " ++ (h.year_text ++ behind_year) in
    let behind_day : List ℕ = codes " " ++ (h.month ++ behind_month) in
    let zone = marked (codes " ") (h.zone ++ h.comment) refl (IsAscii-append h.zone h.comment (zone_ascii h.zone t.offset h.zones)
    (comment_ascii h.comment h.comments)) in
    let clock = marked (codes " ") (h.clock ++ behind_clock) refl (IsAscii-append h.clock behind_clock
    (mail_clock h.clock t.hour t.minute t.second h.clocks) zone) in
    let year = marked (codes " ") (h.year_text ++ behind_year) refl (IsAscii-append h.year_text behind_year
    (field 4 0 9999 h.year_text t.year h.years) clock) in
    let month = marked (codes " ") (h.month ++ behind_month) refl (IsAscii-append h.month behind_month
    (month_name_ascii h.month t.month h.months) year) in
    let day = IsAscii-append h.day_text behind_day (mail_day h.day_text t.day h.days) month in
    joined text h.front (h.day_text ++ behind_day) h.joined (named_front h.front t.weekday h.names) day
