-- Dates of mail: RFC 5322, section 3.3, with the names of zones of section 4.3, but for those of one letter. One blank stands in each
-- place, no line is folded, years have four digits, the hours of a zone go to 24, and one comment may stand, at the end.
use Rattle.std.specs.Prelude.{◌≡◌, ◌⊎◌, ℕ, ◌+◌, ◌*◌, Bool, true, ◌&&◌, ◌==◌, not, nat_le, ℤ, pos, List, [], ◌++◌, codes, Option, Some, None}
use Rattle.std.specs.List.{list_all}
use Rattle.scan_core.specs.Fields.{IsField}
use Rattle.scan_core.specs.Number.{sign_text}
use Rattle.scan_core.specs.Shares.{signed}
use Rattle.internet_dates.specs.Fields.{IsFullClock, IsShortClock}
use Rattle.internet_dates.specs.Names.{IsDayName, IsMonthName, IsZoneName}
use Rattle.internet_dates.specs.declared.date_time.DateTime.{DateTime}

-- the name of a day, a comma and a blank, or nothing
abbrev pub IsNamedFront : List ℕ → Option ℕ → Type 0
IsNamedFront text named =
    ((text ≡ []) × (named ≡ None))
    ⊎ ((name : List ℕ) × (weekday : ℕ) × IsDayName name weekday × (named ≡ Some weekday)
    × (text ≡ name ++ codes ", "))

-- a sign, two digits of hours and two of minutes: minutes ahead of UTC
pub record IsNumericZone (text : List ℕ) (offset : ℤ) : Type 0 where
  pub negative : Bool
  pub hour_text : List ℕ
  pub minute_text : List ℕ
  pub hour : ℕ
  pub minute : ℕ
  pub hours : IsField 2 0 24 hour_text hour
  pub minutes : IsField 2 0 59 minute_text minute
  pub joined : text ≡ sign_text negative ++ (hour_text ++ minute_text)
  pub value : offset ≡ signed negative (60 * hour + minute)

-- a zone by numbers or by name
abbrev pub IsZone : List ℕ → ℤ → Type 0
IsZone text offset =
    IsNumericZone text offset ⊎ (((text ≡ codes "UT") × (offset ≡ pos 0)) ⊎ IsZoneName text offset)

-- printable ASCII without parentheses and backslash
abbrev pub is_comment_byte : ℕ → Bool
is_comment_byte b =
    (nat_le 32 b && nat_le b 126) && (not (b == 40) && (not (b == 41) && not (b == 92)))

-- a blank and a comment in parentheses, or nothing
abbrev pub IsComment : List ℕ → Type 0
IsComment text =
    (text ≡ [])
    ⊎ ((inner : List ℕ) × (list_all is_comment_byte inner ≡ true)
    × (text ≡ codes " (" ++ (inner ++ codes ")")))

-- the text is a date of mail with these fields: `Tue, 1 Dec 2026 23:24 EST (Boston)`
pub record IsMailDate (text : List ℕ) (t : DateTime) : Type 0 where
  pub front : List ℕ
  pub day_text : List ℕ
  pub month : List ℕ
  pub year_text : List ℕ
  pub clock : List ℕ
  pub zone : List ℕ
  pub comment : List ℕ
  pub names : IsNamedFront front t.weekday
  pub days : IsField 2 1 31 day_text t.day ⊎ IsField 1 1 9 day_text t.day
  pub months : IsMonthName month t.month
  pub years : IsField 4 0 9999 year_text t.year
  pub clocks : IsFullClock clock t.hour t.minute t.second
      ⊎ IsShortClock clock t.hour t.minute t.second
  pub zones : IsZone zone t.offset
  pub comments : IsComment comment
  pub joined : text
      ≡ front ++ (day_text ++ (codes " " ++ (month ++ (codes " " ++ (year_text ++ (codes " "
      ++ (clock ++ (codes " " ++ (zone ++ comment)))))))))
