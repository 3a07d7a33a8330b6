-- Durations of ISO 8601-1:2019, 5.5.2, none of whose parts is negative: months, days and a time, or weeks of seven days.
use Rattle.std.specs.Prelude.{ℕ, ◌+◌, ◌*◌, ◌/◌, ◌%◌, ◌^◌, ◌==◌, ◌&&◌, ℤ, pos, Result, Ok, Err, nat_lt, if◌then◌else◌}
use Rattle.iso8601.specs.declared.types.Duration.{Duration}
use Rattle.iso8601.specs.declared.types.Duration.TheVariants.{YMDHMS, Weeks}
use Rattle.forms.specs.declared.cause.Cause.{Cause}
use Rattle.forms.specs.declared.cause.Cause.TheVariants.{Range, Kind, Precision}
use Rattle.forms.specs.declared.value.Value.{Value}
use Rattle.forms.specs.declared.value.Value.TheVariants.{Triple, Length}

-- ---- reading

-- the triple of months, days and microseconds, or `Range` where the microseconds are 2^63 or more
unfoldable pub triple_of : ℕ → ℕ → ℕ → Result Value Cause
triple_of months days micros =
    if nat_lt micros (2 ^ 63) then Ok (Triple (pos months) (pos days) (pos micros))
    else Err Range

-- the triple of a duration: 12 months a year, 7 days a week, and the time in microseconds
abbrev pub worth : Duration → Result Value Cause
worth (YMDHMS year month day hour minute second millisecond) =
    triple_of (12 * year + month) day
    (((hour * 60 + minute) * 60 + second) * 1_000_000 + millisecond * 1000)
worth (Weeks weeks) = triple_of 0 (7 * weeks) 0

-- ---- writing

-- the duration of so many months, days and milliseconds: years and months, days, and hours, minutes, seconds and milliseconds
abbrev pub duration_of : ℕ → ℕ → ℕ → Duration
duration_of months days millis =
    YMDHMS (months / 12) (months % 12) days (millis / 3_600_000) (millis / 60_000 % 60)
    (millis / 1000 % 60) (millis % 1000)

-- that duration, `Range` where 32 bits don't hold its years, days or hours, and else `Precision` where it isn't on a millisecond
unfoldable pub counts_of : ℕ → ℕ → ℕ → Result Duration Cause
counts_of months days micros =
    if nat_lt (months / 12) (2 ^ 32)
    && (nat_lt days (2 ^ 32) && nat_lt (micros / 3_600_000_000) (2 ^ 32))
    then (if (micros % 1000 == 0)
    then Ok (duration_of months days (micros / 1000)) else Err Precision)
    else Err Range

-- the duration of a triple, or `Range` where one of its three numbers is negative
abbrev pub held_triple : ℤ → ℤ → ℤ → Result Duration Cause
held_triple (pos months) (pos days) (pos micros) = counts_of months days micros
held_triple _ _ _ = Err Range

-- a length as days of 86_400 seconds and the rest, `Range` where 32 bits don't hold the days, else `Precision` off a millisecond
unfoldable pub held_length : ℕ → Result Duration Cause
held_length nanos =
    if nat_lt (nanos / 86_400_000_000_000) (2 ^ 32)
    then (
    if (nanos % 1_000_000 == 0)
    then Ok (duration_of 0 (nanos / 86_400_000_000_000) (nanos % 86_400_000_000_000 / 1_000_000))
    else Err Precision
    )
    else Err Range

-- the duration of a triple or of a length; a value of another kind is `Kind`
abbrev pub held : Value → Result Duration Cause
held (Triple months days micros) = held_triple months days micros
held (Length nanos) = held_length nanos
held _ = Err Kind
