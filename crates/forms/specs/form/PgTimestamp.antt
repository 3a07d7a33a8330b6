-- PostgreSQL's timestamps as its output in DateStyle ISO has them (its manual, section 8.5.2): a moment with an offset, a local date-time
-- without one, and a day alone. They are from 24 November 4714 BC to 31 December 9999, to the microsecond.
use Rattle.std.specs.Prelude.{◌≡◌, ◌≢◌, ◌⊎◌, ℕ, ◌*◌, ◌/◌, ◌%◌, List, ℤ, pos, ◌*ℤ◌, unsigned_abs, Result, Ok, Err}
use Rattle.std.specs.Int.{int_div_euclid, int_rem_euclid}
use Rattle.pg_timestamp.specs.Values.{IsInRange, IsRealTimestamp, IsWithinBounds, value_of}
use Rattle.pg_timestamp.specs.Written.{IsValueText}
use Rattle.pg_timestamp.specs.declared.timestamp.Timestamp.{Timestamp}
use Rattle.pg_timestamp.specs.declared.value.Value.{Value as TimestampValue}
use Rattle.pg_timestamp.specs.declared.value.Value.TheVariants as timestamp
use Rattle.forms.specs.declared.cause.Cause.{Cause}
use Rattle.forms.specs.declared.cause.Cause.TheVariants.{Range, Kind, Precision}
use Rattle.forms.specs.declared.value.Value.{Value}
use Rattle.forms.specs.declared.value.Value.TheVariants.{Instant, Day, Local}
use Rattle.forms.specs.Answers.{Judged}

-- ---- reading

-- the value in nanoseconds, of which a microsecond has 1000
abbrev pub in_nanos : TimestampValue → Value
in_nanos (timestamp.Day day) = Day day
in_nanos (timestamp.Local day micros) = Local day (pos (micros * 1000))
in_nanos (timestamp.Moment micros) = Instant (micros *ℤ pos 1000)

-- the value, `NoSuchMoment` where there is no such day or time, or `Range` before the first day or after the last one
abbrev pub Worth : Timestamp → Result Value Cause → Type 0
Worth t = Judged (IsRealTimestamp t) (IsInRange t) (in_nanos (value_of t))

-- ---- writing

-- the text of a value that lies so many nanoseconds behind a microsecond: `Range` where that is out of bounds, and else `Precision` where
-- these nanoseconds aren't 0
abbrev pub HoldsMicros : TimestampValue → ℤ → Result (List ℕ) Cause → Type 0
HoldsMicros value nanos held =
    (¬ (IsWithinBounds value) × (held ≡ Err Range))
    ⊎ ((IsWithinBounds value × (nanos ≢ pos 0) × (held ≡ Err Precision))
    ⊎ (IsWithinBounds value × (nanos ≡ pos 0) × (text : List ℕ) × IsValueText value text × (held ≡ Ok text)))

-- The text of a value: a moment in UTC with its offset, a local date-time without one, a day alone; other kinds are `Kind`. Nanoseconds of
-- a day are never negative, so `unsigned_abs` makes them a natural number and changes none.
abbrev pub Holds : Value → Result (List ℕ) Cause → Type 0
Holds (Instant nanos) =
    HoldsMicros (timestamp.Moment (int_div_euclid nanos (pos 1000))) (int_rem_euclid nanos (pos 1000))
Holds (Day day) = HoldsMicros (timestamp.Day day) (pos 0)
Holds (Local day nanos) =
    HoldsMicros (timestamp.Local day (unsigned_abs nanos / 1000)) (pos (unsigned_abs nanos % 1000))
Holds _ = λ held. held ≡ Err Kind
