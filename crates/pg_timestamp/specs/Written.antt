-- The written text of a value, as PostgreSQL writes it in DateStyle ISO where the zone is UTC (its manual, section 8.5.2, "Date/Time
-- Output"): zeros at the end of a fraction are left out.
use Rattle.std.specs.Prelude.{◌≡◌, ℕ, ◌<◌, ◌==◌, ⊤, List, [], ◌∷◌, ◌++◌, codes, if◌then◌else◌, ℤ, pos, Option, None, Some}
use Rattle.scan_core.specs.Padded.{padded_digits, trimmed_digits}
use Rattle.pg_timestamp.specs.Pieces.{era_text}
use Rattle.pg_timestamp.specs.Values.{IsRealTimestamp, value_of}
use Rattle.pg_timestamp.specs.declared.date.Date.{Date}
use Rattle.pg_timestamp.specs.declared.time.Time.{Time}
use Rattle.pg_timestamp.specs.declared.timestamp.Timestamp.{Timestamp}
use Rattle.pg_timestamp.specs.declared.value.Value.{Value}

-- a mark and at least two digits
abbrev pub pair_text : ℕ → ℕ → List ℕ
pair_text mark n = mark ∷ padded_digits 2 n

-- at least four digits of the year, the month and the day
unfoldable pub year_first_text : Date → List ℕ
year_first_text date = padded_digits 4 date.year ++ (pair_text 45 date.month ++ pair_text 45 date.day)

-- a point and six digits without the zeros at their end, or nothing where all are zeros
unfoldable pub micros_text : ℕ → List ℕ
micros_text micros =
    if micros == 0 then [] else (codes "." ++ trimmed_digits (padded_digits 6 micros))

-- UTC, where there is an offset
abbrev pub zone_text : Option ℤ → List ℕ
zone_text None = []
zone_text (Some seconds) = codes "+00"

-- a blank, the hour, the minute, the second, and perhaps a fraction and an offset
unfoldable pub blank_time_text : Time → List ℕ
blank_time_text time =
    pair_text 32 time.hour
    ++ (pair_text 58 time.minute
    ++ (pair_text 58 time.second ++ (micros_text time.micros ++ zone_text time.offset)))

-- a time, or nothing
abbrev pub perhaps_time_text : Option Time → List ℕ
perhaps_time_text None = []
perhaps_time_text (Some time) = blank_time_text time

-- the date, the time, and the era behind both
unfoldable pub timestamp_text : Timestamp → List ℕ
timestamp_text timestamp =
    year_first_text timestamp.date ++ (perhaps_time_text timestamp.time ++ era_text timestamp.date.bc)

-- no offset, or the one of UTC
abbrev pub IsZero : Option ℤ → Type 0
IsZero None = ⊤
IsZero (Some seconds) = seconds ≡ pos 0

-- no time, a time without an offset, or one in UTC
abbrev pub IsUtc : Option Time → Type 0
IsUtc None = ⊤
IsUtc (Some time) = IsZero time.offset

-- a real day and time of this value, in UTC, whose year is held as it is
pub record IsWritten (value : Value) (timestamp : Timestamp) : Type 0 where
  pub real : IsRealTimestamp timestamp
  pub utc : IsUtc timestamp.time
  pub value_is : value_of timestamp ≡ value
  pub year : timestamp.date.year < 40_000

-- the text of the timestamp that has the value
abbrev pub IsValueText : Value → List ℕ → Type 0
IsValueText value text =
    (timestamp : Timestamp) × IsWritten value timestamp × (text ≡ timestamp_text timestamp)
