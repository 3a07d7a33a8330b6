-- Timestamps as PostgreSQL writes them in DateStyle ISO (its manual, section 8.5.2, "Date/Time Output", and for offsets 8.5.3): a date, or
-- a date, a blank and a time, perhaps with an offset from UTC, and the era behind all.
use Rattle.std.specs.Prelude.{◌≡◌, ◌⊎◌, ℕ, ◌+◌, ◌-◌, ◌*◌, ◌<◌, ◌≤◌, Bool, true, false, List, [], ◌++◌, length, codes, replicate, Option}
use Rattle.std.specs.Prelude.{Some, None, ℤ}
use Rattle.scan_core.specs.Digits.{AreDigits, number_of}
use Rattle.scan_core.specs.Shares.{signed}
use Rattle.pg_timestamp.specs.Pieces.{IsMarkedPair, era_text}
use Rattle.pg_timestamp.specs.Dates.{IsLongYear}
use Rattle.pg_timestamp.specs.declared.time.Time.{Time}
use Rattle.pg_timestamp.specs.declared.timestamp.Timestamp.{Timestamp}

-- nothing, or a point and one to six digits, in microseconds
abbrev pub IsMicrosFraction : List ℕ → ℕ → Type 0
IsMicrosFraction text micros =
    ((text ≡ []) × (micros ≡ 0))
    ⊎ ((digits : List ℕ) × ((0 < length digits) × (length digits ≤ 6)) × AreDigits digits
    × (text ≡ codes "." ++ digits)
    × (micros ≡ number_of (digits ++ replicate (6 - length digits) 48)))

-- a further field of an offset, or nothing, which is 0
abbrev pub IsMore : List ℕ → ℕ → Type 0
IsMore text n = ((text ≡ []) × (n ≡ 0)) ⊎ IsMarkedPair 58 0 59 text n

-- a minus to the west of UTC, a plus else
abbrev pub sign_of : Bool → ℕ
sign_of true = 45
sign_of false = 43

-- a sign and `HH`, `HH:MM` or `HH:MM:SS`, in seconds ahead of UTC
pub record IsZoneOffset (text : List ℕ) (seconds : ℤ) : Type 0 where
  pub negative : Bool
  pub hour_text : List ℕ
  pub minute_text : List ℕ
  pub second_text : List ℕ
  pub hour : ℕ
  pub minute : ℕ
  pub second : ℕ
  pub hours : IsMarkedPair (sign_of negative) 0 24 hour_text hour
  pub minutes : IsMore minute_text minute
  pub seconds_are : IsMore second_text second
  pub order : minute_text ≡ [] → second_text ≡ []
  pub joined : text ≡ hour_text ++ (minute_text ++ second_text)
  pub value : seconds ≡ signed negative ((hour * 60 + minute) * 60 + second)

-- an offset, or nothing
abbrev pub IsPerhapsOffset : List ℕ → Option ℤ → Type 0
IsPerhapsOffset text None = text ≡ []
IsPerhapsOffset text (Some seconds) = IsZoneOffset text seconds

-- a blank, `HH:MM:SS`, and perhaps a fraction and an offset
pub record IsTimeOfDay (text : List ℕ) (time : Time) : Type 0 where
  pub hour_text : List ℕ
  pub minute_text : List ℕ
  pub second_text : List ℕ
  pub fraction_text : List ℕ
  pub offset_text : List ℕ
  pub hours : IsMarkedPair 32 0 24 hour_text time.hour
  pub minutes : IsMarkedPair 58 0 59 minute_text time.minute
  pub seconds : IsMarkedPair 58 0 60 second_text time.second
  pub fraction : IsMicrosFraction fraction_text time.micros
  pub offset : IsPerhapsOffset offset_text time.offset
  pub joined : text ≡ hour_text ++ (minute_text ++ (second_text ++ (fraction_text ++ offset_text)))

-- a time, or nothing
abbrev pub IsPerhapsTime : List ℕ → Option Time → Type 0
IsPerhapsTime text None = text ≡ []
IsPerhapsTime text (Some time) = IsTimeOfDay text time

-- a date, perhaps a time, and the era behind both
pub record IsTimestampText (text : List ℕ) (timestamp : Timestamp) : Type 0 where
  pub year_text : List ℕ
  pub month_text : List ℕ
  pub day_text : List ℕ
  pub time_text : List ℕ
  pub years : IsLongYear year_text timestamp.date.year
  pub months : IsMarkedPair 45 1 12 month_text timestamp.date.month
  pub days : IsMarkedPair 45 1 31 day_text timestamp.date.day
  pub times : IsPerhapsTime time_text timestamp.time
  pub joined :
      text
      ≡ year_text ++ (month_text ++ (day_text ++ (time_text ++ era_text timestamp.date.bc)))
