-- File times as civil moments in UTC, as `jiff` counts them: `civil_nanos` is the nanoseconds from
-- 1970-01-01 00:00:00 to a civil date-time.
use Rattle.std.specs.Prelude.{◌≡◌, ℕ, ◌<◌, ◌≤◌, pos, ◌<ℤ◌, ◌↔◌, Result, IfOk, IsErr, IsErrOf}
use Rattle.jiff.specs.Types.{DateTime, Timestamp}
use Rattle.jiff.specs.Words.{civil_nanos}
use Rattle.dos_date.specs.DateTime.{IsMomentOf, IsFromCivil}
use Rattle.dos_date.specs.Words.{Words}
use Rattle.dos_date.specs.declared.error.DosRangeErrorKind.{DosRangeErrorKind}
use Rattle.dos_date.specs.declared.error.DosRangeErrorKind.TheVariants.{Negative, Overflow}
use Rattle.nt_time.specs.declared.error.OutOfCivil.{OutOfCivil}
use Rattle.nt_time.specs.FileTime.{unix_nanos}

-- the civil date-time in UTC at that tick
abbrev pub IsUtcOf : ℕ → DateTime → Type 0
IsUtcOf ticks civil = civil_nanos civil ≡ unix_nanos ticks

-- the first tick after the year 9999
abbrev pub past_civil : ℕ
past_civil = 2_650_467_744_000_000_000

-- the civil date-time of a tick, or none after the year 9999
pub record IsCivilFrom (ticks : ℕ) (result : Result DateTime OutOfCivil) : Type 0 where
  pub ok : IfOk result (IsUtcOf ticks)
  pub out : IsErr result ↔ (past_civil ≤ ticks)

-- the instant of a tick, or none after the last one that `jiff` has, 9999-12-30 22:00:00.999999999 UTC
pub record IsTimestampFrom (ticks : ℕ) (result : Result Timestamp OutOfCivil) : Type 0 where
  pub ok : IfOk result (λ instant. instant.nanosecond ≡ unix_nanos ticks)
  pub out : IsErr result ↔ (pos 253_402_207_200_999_999_999 <ℤ unix_nanos ticks)

-- the DOS date-time of a tick: that of its civil date-time in UTC, and too late after the year
-- 9999. The years 1980 to 2107 are those from tick 119_600_064_000_000_000 on and before tick
-- 159_992_928_000_000_000.
pub record IsDosFrom (ticks : ℕ) (result : Result Words DosRangeErrorKind) : Type 0 where
  pub civil : ticks < past_civil
      → (civil : DateTime) × IsUtcOf ticks civil × IsFromCivil civil result
  pub beyond : past_civil ≤ ticks → IsErrOf result Overflow
  pub negative : IsErrOf result Negative ↔ (ticks < 119_600_064_000_000_000)
  pub overflow : IsErrOf result Overflow ↔ (159_992_928_000_000_000 ≤ ticks)

-- the tick of a DOS date-time in UTC
abbrev pub IsTickOf : Words → ℕ → Type 0
IsTickOf words ticks = (civil : DateTime) × IsMomentOf words civil × IsUtcOf ticks civil
