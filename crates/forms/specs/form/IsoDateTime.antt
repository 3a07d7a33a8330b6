-- Date-times of ISO 8601-1:2019, 5.4, to the millisecond; one without an offset is in UTC. The years are -9999 to 9999: at reading those
-- of the date as it is written, at writing those of the day in UTC.
use Rattle.std.specs.Prelude.{◌≡◌, ◌⊎◌, ℕ, ◌+◌, ◌*◌, ◌<◌, ◌≤◌, ◌==◌, ℤ, pos, ◌+ℤ◌, ◌-ℤ◌, ◌*ℤ◌, unsigned_abs, Result, Ok, Err}
use Rattle.std.specs.Prelude.{if◌then◌else◌}
use Rattle.iso8601.specs.Calendar.{day_of, Exists, IsCivilDay}
use Rattle.iso8601.specs.Moments.{IsOnClock, offset_of}
use Rattle.iso8601.specs.declared.types.Date.TheVariants.{YMD}
use Rattle.iso8601.specs.declared.types.DateTime.{DateTime}
use Rattle.forms.specs.declared.cause.Cause.{Cause}
use Rattle.forms.specs.declared.cause.Cause.TheVariants.{Range, Kind, Precision}
use Rattle.forms.specs.declared.value.Value.{Value}
use Rattle.forms.specs.declared.value.Value.TheVariants.{Instant}
use Rattle.forms.specs.Answers.{Judged}

-- ---- reading

-- the moment in nanoseconds from 1970-01-01 in UTC: the date's day and the time of it, less the offset
abbrev pub instant_of : DateTime → ℤ
instant_of t =
    (day_of t.date *ℤ pos 86_400_000_000_000
    +ℤ pos (((t.time.hour * 60 + t.time.minute) * 60 + t.time.second) * 1_000_000_000
    + t.time.millisecond * 1_000_000))
    -ℤ offset_of t.time *ℤ pos 1_000_000_000

-- there is such a day, a clock shows the time, and the offset is less than a day
pub record IsReal (t : DateTime) : Type 0 where
  pub day : Exists t.date
  pub clock : IsOnClock t.time
  pub offset : unsigned_abs (offset_of t.time) < 86_400

-- the moment, `NoSuchMoment` where there is none, or `Range` where the date as it is written isn't of the years -9999 to 9999
abbrev pub Worth : DateTime → Result Value Cause → Type 0
Worth t = Judged (IsReal t) (IsCivilDay (day_of t.date)) (Instant (instant_of t))

-- ---- writing

-- The moment is in the millisecond of the date-time, so many nanoseconds into it; the date-time is in UTC, by year, month and day, and
-- of the years -9999 to 9999.
pub record IsAt (nanos : ℤ) (t : DateTime) (part : ℕ) : Type 0 where
  pub year : ℤ
  pub month : ℕ
  pub day : ℕ
  pub date : t.date ≡ YMD year month day
  pub years : unsigned_abs year ≤ 9999
  pub hours : t.time.tz_offset_hours ≡ pos 0
  pub minutes : t.time.tz_offset_minutes ≡ pos 0
  pub real : IsReal t
  pub below : part < 1_000_000
  pub same : instant_of t +ℤ pos part ≡ nanos

-- the date-time at the moment, where its milliseconds are whole, or `Range` where there is none
abbrev pub Holds : Value → Result DateTime Cause → Type 0
Holds (Instant nanos) held =
    ((t : DateTime) × (part : ℕ) × IsAt nanos t part
    × (held ≡ (if part == 0 then Ok t else Err Precision)))
    ⊎ (((t : DateTime) (part : ℕ) → IsAt nanos t part → ⊥) × (held ≡ Err Range))
Holds _ held = held ≡ Err Kind
