-- Unix time and file times. A floor is the greatest of its kind that is not after the moment.
use Rattle.std.specs.Prelude.{ℕ, ◌-◌, ◌^◌, ◌≤◌, ℤ, pos, ◌*ℤ◌, ◌<ℤ◌, ◌≤ℤ◌, ◌↔◌, Result, IfOk, IsErrOf}
use Rattle.nt_time.specs.declared.error.FileTimeRangeErrorKind.{FileTimeRangeErrorKind}
use Rattle.nt_time.specs.declared.error.FileTimeRangeErrorKind.TheVariants.{Negative, Overflow}
use Rattle.nt_time.specs.FileTime.{unix_nanos}

-- the greatest whole number of units, each of so many nanoseconds, that is not after n nanoseconds
abbrev pub IsFloor : ℕ → ℤ → ℤ → Type 0
IsFloor unit n count =
    ((count *ℤ pos unit) ≤ℤ n) × ((more : ℤ) → (more *ℤ pos unit) ≤ℤ n → more ≤ℤ count)

-- the greatest count of ticks that is not after n nanoseconds of Unix time
abbrev pub IsLatestNotAfter : ℤ → ℕ → Type 0
IsLatestNotAfter n ticks =
    (unix_nanos ticks ≤ℤ n) × ((later : ℕ) → unix_nanos later ≤ℤ n → later ≤ ticks)

-- the file time of n nanoseconds of Unix time, or the bound that n passes: the first tick's
-- nanosecond and the last tick's
pub record IsFromUnixNanos (n : ℤ) (result : Result ℕ FileTimeRangeErrorKind) : Type 0 where
  pub ok : IfOk result (IsLatestNotAfter n)
  pub negative : IsErrOf result Negative ↔ (n <ℤ unix_nanos 0)
  pub overflow : IsErrOf result Overflow ↔ (unix_nanos (2 ^ 64 - 1) <ℤ n)
