-- Parts of the grammars by names that private contracts alone cite.
use Rattle.std.specs.Prelude.{◌≡◌, ℕ, ℤ, ◌⊎◌, List, [], codes}
use Rattle.scan_core.specs.Fields.{IsField}
use Rattle.iso8601.specs.Dates.{IsMonthDay, IsWeekDay}
use Rattle.iso8601.specs.Durations.{IsDurationClock, IsCount, IsCounted, IsDated, IsDecimal}
use Rattle.iso8601.specs.Fields.{IsMarked, IsOrZero}
use Rattle.iso8601.specs.declared.types.Date.{Date}
use Rattle.iso8601.specs.declared.types.Date.TheVariants.{Ordinal}
use Rattle.iso8601.specs.declared.types.Duration.{Duration}
use Rattle.iso8601.specs.declared.types.Duration.TheVariants.{Weeks}

-- the mark, or nothing
abbrev pub IsPerhaps : List ℕ → List ℕ → Type 0
IsPerhaps mark text = (text ≡ []) ⊎ (text ≡ mark)

-- three digits of a day
abbrev pub IsOrdinalDay : ℤ → List ℕ → Date → Type 0
IsOrdinalDay year text date = (day : ℕ) × IsField 3 1 366 text day × (date ≡ Ordinal year day)

-- a day of any of the three kinds
abbrev pub IsDayOf : ℤ → List ℕ → Date → Type 0
IsDayOf year text date =
    IsMonthDay year text date ⊎ (IsWeekDay year text date ⊎ IsOrdinalDay year text date)

-- perhaps a colon, and two digits of a number up to hi
abbrev pub IsLater : ℕ → List ℕ → ℕ → Type 0
IsLater hi = IsMarked (codes ":") 2 0 hi

-- a point or a comma
abbrev pub IsPoint : List ℕ → Type 0
IsPoint text = (text ≡ codes ".") ⊎ (text ≡ codes ",")

-- the same, or nothing, which means zeros
abbrev pub IsPerhapsClock : List ℕ → ℕ × (ℕ × (ℕ × ℕ)) → Type 0
IsPerhapsClock text value = ((text ≡ []) × (value ≡ (0, (0, (0, 0))))) ⊎ IsDurationClock text value

-- weeks alone
abbrev pub IsWeeks : List ℕ → Duration → Type 0
IsWeeks text duration = (week : ℕ) × IsCount (codes "W") text week × (duration ≡ Weeks week)

-- what stands behind the `P`: weeks, counts, or a date and a time
abbrev pub IsBody : List ℕ → Duration → Type 0
IsBody body duration = IsWeeks body duration ⊎ (IsCounted body duration ⊎ IsDated body duration)

-- seconds and milliseconds
abbrev pub IsSeconds : List ℕ → ℕ × ℕ → Type 0
IsSeconds text value =
    (IsOrZero (IsCount (codes "S")) text value.0 × (value.1 ≡ 0)) ⊎ IsDecimal text value
