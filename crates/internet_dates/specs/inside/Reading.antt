-- What the readers answer, as functions on lists: a value and what follows it. Cited by private contracts alone.
use Rattle.std.specs.Prelude.{ℕ, suc, ◌+◌, ◌-◌, ◌*◌, Bool, true, false, ◌&&◌, ◌||◌, ◌==◌, nat_le, ℤ, pos, neg_ℤ, List, [], ◌∷◌, codes}
use Rattle.std.specs.Prelude.{get_or, Option, Some, None, if◌then◌else◌, option_and_then, option_map}
use Rattle.std.specs.Char.{is_ascii_digit}
use Rattle.scan_core.specs.Fronts.{behind}
use Rattle.scan_core.specs.Shares.{signed}
use Rattle.internet_dates.specs.MailDate.{is_comment_byte}
use Rattle.internet_dates.specs.Names.{day_names, month_names, zone_hours, zone_names}
use Rattle.internet_dates.specs.declared.date_time.DateTime.{DateTime}
use Rattle.internet_dates.specs.declared.fields.Clock.{Clock}

-- ---- small pieces

-- what follows the mark
abbrev pub read_mark : ℕ → List ℕ → Option (List ℕ)
read_mark mark [] = None
read_mark mark (b ∷ bs) = if b == mark then Some bs else None

-- the number of two digits, within its bounds
unfoldable pub two_number : ℕ → ℕ → ℕ → ℕ → Option ℕ
two_number lo hi a b =
    if (is_ascii_digit a && is_ascii_digit b)
    && (nat_le lo (10 * (a - 48) + (b - 48)) && nat_le (10 * (a - 48) + (b - 48)) hi)
    then Some (10 * (a - 48) + (b - 48)) else None

-- a number with what follows it
abbrev pub with_rest : {A : Type 0} → List ℕ → Option A → Option (A × List ℕ)
with_rest rest found = option_map (λ n. (n, rest)) found

-- two digits
abbrev pub read_two : ℕ → ℕ → List ℕ → Option (ℕ × List ℕ)
read_two lo hi [] = None
read_two lo hi (a ∷ []) = None
read_two lo hi (a ∷ (b ∷ rest)) = with_rest rest (two_number lo hi a b)

-- two digits behind a mark
unfoldable pub read_pair : ℕ → ℕ → ℕ → List ℕ → Option (ℕ × List ℕ)
read_pair mark lo hi bytes = option_and_then (read_two lo hi) (read_mark mark bytes)

-- the number of four digits
unfoldable pub four_number : ℕ → ℕ → ℕ → ℕ → Option ℕ
four_number a b c d =
    if (is_ascii_digit a && is_ascii_digit b) && (is_ascii_digit c && is_ascii_digit d)
    then Some (1000 * (a - 48) + 100 * (b - 48) + 10 * (c - 48) + (d - 48)) else None

-- four digits
abbrev pub read_four : List ℕ → Option (ℕ × List ℕ)
read_four [] = None
read_four (a ∷ []) = None
read_four (a ∷ (b ∷ [])) = None
read_four (a ∷ (b ∷ (c ∷ []))) = None
read_four (a ∷ (b ∷ (c ∷ (d ∷ rest)))) = with_rest rest (four_number a b c d)

-- a year behind a blank
unfoldable pub read_year : List ℕ → Option (ℕ × List ℕ)
read_year bytes = option_and_then read_four (read_mark 32 bytes)

-- ---- names

-- three bytes are a name
abbrev pub is_name : List ℕ → ℕ → ℕ → ℕ → Bool
is_name name a b c = (a == get_or name 0 0) && ((b == get_or name 1 0) && (c == get_or name 2 0))

-- the place among names that three bytes are, counted from the first one
abbrev pub place_of : List (List ℕ) → ℕ → ℕ → ℕ → ℕ → Option ℕ
place_of [] first a b c = None
place_of (name ∷ names) first a b c =
    if is_name name a b c then Some first else place_of names (suc first) a b c

-- three bytes that are a name
abbrev pub read_name : List (List ℕ) → ℕ → List ℕ → Option (ℕ × List ℕ)
read_name names first [] = None
read_name names first (a ∷ []) = None
read_name names first (a ∷ (b ∷ [])) = None
read_name names first (a ∷ (b ∷ (c ∷ rest))) = with_rest rest (place_of names first a b c)

-- the name of a day
unfoldable pub read_weekday : List ℕ → Option (ℕ × List ℕ)
read_weekday bytes = read_name day_names 0 bytes

-- the name of a month behind a blank
unfoldable pub read_month : List ℕ → Option (ℕ × List ℕ)
read_month bytes = option_and_then (read_name month_names 1) (read_mark 32 bytes)

-- ---- times of day

abbrev pub clock_made : ℕ → ℕ → ℕ → Clock
clock_made h m s = record { hour = h; minute = m; second = s }

-- hours, minutes and seconds behind a blank
unfoldable pub read_clock : List ℕ → Option (Clock × List ℕ)
read_clock bytes =
    option_and_then (λ h.
    option_and_then (λ m.
    option_and_then (λ s. Some (clock_made h.0 m.0 s.0, s.1))
    (read_pair 58 0 60 m.1))
    (read_pair 58 0 59 h.1))
    (read_pair 32 0 24 bytes)

-- ---- dates of HTTP

abbrev pub made : Option ℕ → ℕ → ℕ → ℕ → Clock → ℤ → DateTime
made weekday y m d c z =
    record {
      weekday = weekday;
      year = y;
      month = m;
      day = d;
      hour = c.hour;
      minute = c.minute;
      second = c.second;
      offset = z;
    }

-- the bytes are this text
abbrev pub is_text : List ℕ → List ℕ → Bool
is_text [] [] = true
is_text [] (b ∷ bs) = false
is_text (e ∷ es) [] = false
is_text (e ∷ es) (b ∷ bs) = (b == e) && is_text es bs

-- the fields, where nothing but this text is left
abbrev pub at_end : List ℕ → List ℕ → DateTime → Option DateTime
at_end end bytes t = if is_text end bytes then Some t else None

-- an IMF-fixdate from behind the comma
unfoldable pub read_fixdate : ℕ → List ℕ → Option DateTime
read_fixdate weekday bytes =
    option_and_then (λ d.
    option_and_then (λ m.
    option_and_then (λ y.
    option_and_then (λ c. at_end (codes " GMT") c.1 (made (Some weekday) y.0 m.0 d.0 c.0 (pos 0)))
    (read_clock y.1))
    (read_year m.1))
    (read_month d.1))
    (read_pair 32 1 31 bytes)

-- a blank stands for the digit 0
abbrev pub tens : ℕ → ℕ
tens b = if b == 32 then 48 else b

-- a day whose first digit may be a blank
abbrev pub read_padded : List ℕ → Option (ℕ × List ℕ)
read_padded [] = None
read_padded (a ∷ []) = None
read_padded (a ∷ (b ∷ rest)) = with_rest rest (two_number 1 31 (tens a) b)

-- the same behind a blank
unfoldable pub read_padded_day : List ℕ → Option (ℕ × List ℕ)
read_padded_day bytes = option_and_then read_padded (read_mark 32 bytes)

-- asctime's form from behind the name of the day
unfoldable pub read_asctime : ℕ → List ℕ → Option DateTime
read_asctime weekday bytes =
    option_and_then (λ m.
    option_and_then (λ d.
    option_and_then (λ c.
    option_and_then (λ y. at_end [] y.1 (made (Some weekday) y.0 m.0 d.0 c.0 (pos 0)))
    (read_year c.1))
    (read_clock d.1))
    (read_padded_day m.1))
    (read_month bytes)

-- what follows the comma, or what follows the name where there is no comma
abbrev pub read_behind_name : ℕ → List ℕ → Option (List ℕ) → Option DateTime
read_behind_name weekday bytes (Some rest) = read_fixdate weekday rest
read_behind_name weekday bytes None = read_asctime weekday bytes

-- a date of HTTP
unfoldable pub read_http_date : List ℕ → Option DateTime
read_http_date bytes =
    option_and_then (λ w. read_behind_name w.0 w.1 (read_mark 44 w.1)) (read_weekday bytes)

-- ---- dates of mail

-- a digit stands in front
abbrev pub begins_with_digit : List ℕ → Bool
begins_with_digit [] = false
begins_with_digit (b ∷ bs) = is_ascii_digit b

-- the name of a day, a comma and a blank
unfoldable pub read_named : List ℕ → Option (Option ℕ × List ℕ)
read_named bytes =
    option_and_then (λ w.
    option_and_then (λ comma.
    option_and_then (λ rest. Some (Some w.0, rest))
    (read_mark 32 comma))
    (read_mark 44 w.1))
    (read_weekday bytes)

-- the same, or nothing in front of a digit
unfoldable pub read_front : List ℕ → Option (Option ℕ × List ℕ)
read_front bytes = if begins_with_digit bytes then Some (None, bytes) else read_named bytes

-- a day whose first byte was read: a blank ends a day of one digit
abbrev pub read_day_behind : ℕ → List ℕ → Option (ℕ × List ℕ)
read_day_behind a [] = None
read_day_behind a (b ∷ bs) =
    if b == 32 then with_rest (b ∷ bs) (two_number 1 31 48 a)
    else with_rest bs (two_number 1 31 a b)

-- one or two digits of a day
abbrev pub read_day : List ℕ → Option (ℕ × List ℕ)
read_day [] = None
read_day (a ∷ bs) = read_day_behind a bs

-- seconds behind a colon, or 0
abbrev pub read_seconds : List ℕ → Option (ℕ × List ℕ)
read_seconds [] = Some (0, [])
read_seconds (b ∷ bs) = if b == 58 then read_two 0 60 bs else Some (0, b ∷ bs)

-- hours, minutes and perhaps seconds behind a blank
unfoldable pub read_mail_clock : List ℕ → Option (Clock × List ℕ)
read_mail_clock bytes =
    option_and_then (λ h.
    option_and_then (λ m.
    option_and_then (λ s. Some (clock_made h.0 m.0 s.0, s.1))
    (read_seconds m.1))
    (read_pair 58 0 59 h.1))
    (read_pair 32 0 24 bytes)

-- hours and minutes behind a sign
unfoldable pub read_numeric : Bool → List ℕ → Option (ℤ × List ℕ)
read_numeric negative bytes =
    option_and_then (λ h.
    option_and_then (λ m. Some (signed negative (60 * h.0 + m.0), m.1))
    (read_two 0 59 h.1))
    (read_two 0 24 bytes)

-- `UT`
unfoldable pub read_ut : List ℕ → Option (List ℕ)
read_ut bytes = option_and_then (read_mark 84) (read_mark 85 bytes)

-- minutes ahead of UTC
abbrev pub minutes_of : ℕ → ℤ
minutes_of n = neg_ℤ (pos (60 * get_or zone_hours n 0))

-- a zone by the name of three letters
unfoldable pub read_zone_name : List ℕ → Option (ℤ × List ℕ)
read_zone_name bytes = option_map (λ n. (minutes_of n.0, n.1)) (read_name zone_names 0 bytes)

-- in UTC behind `UT`, else a zone by its name
abbrev pub ut_or_name : List ℕ → Option (List ℕ) → Option (ℤ × List ℕ)
ut_or_name bytes (Some rest) = Some (pos 0, rest)
ut_or_name bytes None = read_zone_name bytes

-- a zone
abbrev pub read_zone : List ℕ → Option (ℤ × List ℕ)
read_zone [] = None
read_zone (b ∷ bs) =
    if b == 43 then read_numeric false bs
    else if b == 45 then read_numeric true bs
    else ut_or_name (b ∷ bs) (read_ut (b ∷ bs))

-- a zone behind a blank
unfoldable pub read_spaced_zone : List ℕ → Option (ℤ × List ℕ)
read_spaced_zone bytes = option_and_then read_zone (read_mark 32 bytes)

-- what follows a blank and a parenthesis
unfoldable pub read_opening : List ℕ → Option (List ℕ)
read_opening bytes = option_and_then (read_mark 40) (read_mark 32 bytes)

-- a comment's bytes and a closing parenthesis
abbrev pub is_closed : Option (List ℕ) → Bool
is_closed None = false
is_closed (Some inner) = is_text (codes ")") (behind is_comment_byte inner)

-- a comment, or nothing
unfoldable pub is_comment : List ℕ → Bool
is_comment bytes = is_text [] bytes || is_closed (read_opening bytes)

-- a date of mail
unfoldable pub read_mail_date : List ℕ → Option DateTime
read_mail_date bytes =
    option_and_then (λ w.
    option_and_then (λ d.
    option_and_then (λ m.
    option_and_then (λ y.
    option_and_then (λ c.
    option_and_then (λ z.
    if is_comment z.1 then Some (made w.0 y.0 m.0 d.0 c.0 z.0) else None)
    (read_spaced_zone c.1))
    (read_mail_clock y.1))
    (read_year m.1))
    (read_month d.1))
    (read_day w.1))
    (read_front bytes)
