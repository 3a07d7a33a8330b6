-- File times: the raw count of ticks of 100 nanoseconds since 1601-01-01 00:00:00 UTC, as Microsoft's `FILETIME` has it, in decimal.
use Rattle.std.specs.Prelude.{ℕ, ◌-◌, ◌*◌, ◌/◌, ◌%◌, ◌^◌, ◌==◌, ℤ, pos, negsuc, ◌-ℤ◌, Result, Ok, Err, nat_lt, if◌then◌else◌}
use Rattle.nt_time.specs.FileTime.{unix_nanos}
use Rattle.forms.specs.declared.cause.Cause.{Cause}
use Rattle.forms.specs.declared.cause.Cause.TheVariants.{Range, Kind, Precision}
use Rattle.forms.specs.declared.value.Value.{Value}
use Rattle.forms.specs.declared.value.Value.TheVariants.{Instant}

-- the instant of a count of ticks, or `Range` where 64 bits don't hold the count
unfoldable pub worth : ℕ → Result Value Cause
worth ticks = if nat_lt ticks (2 ^ 64) then Ok (Instant (unix_nanos ticks)) else Err Range

-- the tick so many nanoseconds after tick 0: `Range` before tick 0 and after the last one, `Precision` between two ticks
unfoldable pub ticks_after : ℤ → Result ℕ Cause
ticks_after (negsuc n) = Err Range
ticks_after (pos nanos) =
    if nat_lt (100 * (2 ^ 64 - 1)) nanos then Err Range
    else if (nanos % 100 == 0) then Ok (nanos / 100) else Err Precision

-- the tick at an instant; a value of another kind is `Kind`
abbrev pub held : Value → Result ℕ Cause
held (Instant nanos) = ticks_after (nanos -ℤ unix_nanos 0)
held _ = Err Kind
