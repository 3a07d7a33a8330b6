-- The two words of a DOS date-time and the civil moment that they name.
use Rattle.std.specs.Prelude.{◌≡◌, ℕ, pos, ◌<ℤ◌, ◌↔◌, Result, IfOk, IsErrOf}
use Rattle.jiff.specs.Types.{DateTime as CivilDateTime}
use Rattle.dos_date.specs.declared.error.DosRangeErrorKind.{DosRangeErrorKind}
use Rattle.dos_date.specs.declared.error.DosRangeErrorKind.TheVariants.{Negative, Overflow}
use Rattle.dos_date.specs.DateWord.{IsDateWord}
use Rattle.dos_date.specs.Words.{Words}
use Rattle.dos_date.specs.TimeWord.{IsTimeWord, IsCutTimeWord}

-- the words name this civil moment
abbrev pub IsMomentOf : Words → CivilDateTime → Type 0
IsMomentOf words civil = IsDateWord words.date civil.date × IsTimeWord words.time civil.time

-- the words name the last even second that is not after the civil moment
abbrev pub IsCutTo : CivilDateTime → Words → Type 0
IsCutTo civil words = IsDateWord words.date civil.date × IsCutTimeWord words.time civil.time

-- the civil moment has this year, month, day, hour, minute and second, and nothing less
abbrev pub IsAt : ℕ → ℕ → ℕ → ℕ → ℕ → ℕ → CivilDateTime → Type 0
IsAt year month day hour minute second civil =
    (civil.date.year ≡ pos year) × (civil.date.month ≡ month) × (civil.date.day ≡ day)
    × (civil.time.hour ≡ hour) × (civil.time.minute ≡ minute) × (civil.time.second ≡ second)
    × (civil.time.subsec_nanosecond ≡ 0)

-- the words of a civil moment, or the bound that it passes: the years are 1980 to 2107
pub record IsFromCivil (civil : CivilDateTime) (result : Result Words DosRangeErrorKind)
    : Type 0 where
  pub ok : IfOk result (IsCutTo civil)
  pub negative : IsErrOf result Negative ↔ (civil.date.year <ℤ pos 1980)
  pub overflow : IsErrOf result Overflow ↔ (pos 2107 <ℤ civil.date.year)
