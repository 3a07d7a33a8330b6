-- Date-times of TOML 1.1: a date-time with an offset is a moment, one without is local, and a date or a time may stand alone.
use Rattle.std.specs.Prelude.{◌≡◌, ◌⊎◌, ℕ, ◌+◌, ◌*◌, ◌/◌, ◌%◌, ◌<◌, ◌==◌, ℤ, pos, ◌+ℤ◌, ◌-ℤ◌, ◌*ℤ◌, Option, Some, None}
use Rattle.std.specs.Prelude.{unwrap_or, Result, Ok, Err, if◌then◌else◌}
use Rattle.iso8601.specs.Calendar.{day_of}
use Rattle.iso8601.specs.declared.types.Date.TheVariants.{YMD}
use Rattle.port_toml_datetime.specs.Datetimes.{datetime_of}
use Rattle.port_toml_datetime.specs.WellFormed.{IsRealDay}
use Rattle.port_toml_datetime.specs.declared.date.Date.{Date}
use Rattle.port_toml_datetime.specs.declared.time.Time.{Time}
use Rattle.port_toml_datetime.specs.declared.offset.Offset.{Offset}
use Rattle.port_toml_datetime.specs.declared.offset.Offset.TheVariants.{Z, Custom}
use Rattle.port_toml_datetime.specs.declared.datetime.Datetime.{Datetime}
use Rattle.forms.specs.declared.cause.Cause.{Cause}
use Rattle.forms.specs.declared.cause.Cause.TheVariants.{Syntax, NoSuchMoment, Range, Kind}
use Rattle.forms.specs.declared.value.Value.{Value}
use Rattle.forms.specs.declared.value.Value.TheVariants.{Instant, Day, Local, Clock}
use Rattle.forms.specs.Answers.{result_map}

-- ---- reading

-- nanoseconds since midnight, where seconds and nanoseconds that aren't written are 0; second 60, in any minute, is `NoSuchMoment`, since
-- POSIX counts no leap seconds
unfoldable pub clock : Time → Result ℤ Cause
clock t =
    if (unwrap_or t.second 0 == 60) then Err NoSuchMoment
    else Ok (pos (((t.hour * 60 + t.minute) * 60 + unwrap_or t.second 0) * 1_000_000_000
    + unwrap_or t.nanosecond 0))

-- how many minutes ahead of UTC
abbrev pub minutes_of : Offset → ℤ
minutes_of Z = pos 0
minutes_of (Custom minutes) = minutes

-- the moment, or the local date-time, so many nanoseconds into a day
abbrev pub moment_of : ℤ → Option Offset → ℤ → Value
moment_of day (Some offset) nanos =
    Instant ((day *ℤ pos 86_400_000_000_000 +ℤ nanos) -ℤ minutes_of offset *ℤ pos 60_000_000_000)
moment_of day None nanos = Local day nanos

-- the value of a day, and of a time of it where there is one
abbrev pub dated_worth : ℤ → Option Time → Option Offset → Result Value Cause
dated_worth day (Some time) offset = result_map (moment_of day offset) (clock time)
dated_worth day None offset = Ok (Day day)

-- the value of the parts that are there; no text has neither a date nor a time
abbrev pub worth_of : Option Date → Option Time → Option Offset → Result Value Cause
worth_of (Some date) time offset = dated_worth (day_of (YMD (pos date.year) date.month date.day)) time offset
worth_of None (Some time) offset = result_map Clock (clock time)
worth_of None None offset = Err Syntax

-- ---- writing

-- the time so many nanoseconds after midnight, with seconds, and with a fraction where it isn't 0
abbrev pub time_of : ℕ → Time
time_of nanos = record {
  hour = nanos / 3_600_000_000_000;
  minute = nanos / 60_000_000_000 % 60;
  second = Some (nanos / 1_000_000_000 % 60);
  nanosecond =
      if (nanos % 1_000_000_000 == 0) then None else Some (nanos % 1_000_000_000);
}

-- the date with this day, or `Range` where no date of the years 0 to 9999 has it
abbrev pub HoldsDay : ℤ → Result Date Cause → Type 0
HoldsDay day held =
    ((date : Date) × IsRealDay date × (day_of (YMD (pos date.year) date.month date.day) ≡ day)
    × (held ≡ Ok date))
    ⊎ (((date : Date) → IsRealDay date → day_of (YMD (pos date.year) date.month date.day) ≡ day → ⊥)
    × (held ≡ Err Range))

-- that date with a time or without, and an offset or none
abbrev pub HoldsDated : ℤ → Option Time → Option Offset → Result Datetime Cause → Type 0
HoldsDated day time offset held =
    (date : Result Date Cause) × HoldsDay day date
    × (held ≡ result_map (λ d. datetime_of (Some d) time offset) date)

-- The date-time of a value: a moment in UTC with `Z`, a day, a local and a clock without an offset; other kinds are `Kind`. A moment is so
-- many nanoseconds since midnight of its day, fewer than a day has; a local and a clock have theirs as they are.
abbrev pub Holds : Value → Result Datetime Cause → Type 0
Holds (Instant nanos) held =
    (day : ℤ) × (since : ℕ) × (since < 86_400_000_000_000)
    × (nanos ≡ day *ℤ pos 86_400_000_000_000 +ℤ pos since)
    × HoldsDated day (Some (time_of since)) (Some Z) held
Holds (Day day) held = HoldsDated day None None held
Holds (Local day nanos) held =
    (since : ℕ) × (nanos ≡ pos since) × HoldsDated day (Some (time_of since)) None held
Holds (Clock nanos) held =
    (since : ℕ) × (nanos ≡ pos since)
    × (held ≡ Ok (datetime_of None (Some (time_of since)) None))
Holds _ held = held ≡ Err Kind
