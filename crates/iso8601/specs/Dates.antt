-- Dates (ISO 8601-1:2019, 5.2): a year, perhaps a hyphen, and a day of the year by month, by week or by number. No kind goes before
-- another. Each hyphen may be left out by itself, where the standard has all of them or none.
use Rattle.std.specs.Prelude.{◌≡◌, ℕ, ℤ, ◌⊎◌, List, [], ◌++◌, codes}
use Rattle.scan_core.specs.Fields.{IsField}
use Rattle.iso8601.specs.Fields.{IsMarked, IsYear}
use Rattle.iso8601.specs.declared.types.Date.{Date}
use Rattle.iso8601.specs.declared.types.Date.TheVariants.{YMD, Week, Ordinal}

-- two digits of a month, perhaps a hyphen, two digits of a day
pub record IsMonthDay (year : ℤ) (text : List ℕ) (date : Date) : Type 0 where
  pub month_text : List ℕ
  pub day_text : List ℕ
  pub month : ℕ
  pub day : ℕ
  pub months : IsField 2 1 12 month_text month
  pub days : IsMarked (codes "-") 2 1 31 day_text day
  pub joined : text ≡ month_text ++ day_text
  pub value : date ≡ YMD year month day

-- `W`, two digits of a week, perhaps a hyphen, one digit of a day
pub record IsWeekDay (year : ℤ) (text : List ℕ) (date : Date) : Type 0 where
  pub week_text : List ℕ
  pub day_text : List ℕ
  pub week : ℕ
  pub day : ℕ
  pub weeks : IsField 2 1 53 week_text week
  pub days : IsMarked (codes "-") 1 1 7 day_text day
  pub joined : text ≡ codes "W" ++ (week_text ++ day_text)
  pub value : date ≡ Week year week day

-- the text is a date: its day is by month, by week, or three digits of its number in the year
pub record IsDate (text : List ℕ) (date : Date) : Type 0 where
  pub year_text : List ℕ
  pub hyphen : List ℕ
  pub day_text : List ℕ
  pub year : ℤ
  pub years : IsYear year_text year
  pub mark : (hyphen ≡ []) ⊎ (hyphen ≡ codes "-")
  pub days : IsMonthDay year day_text date
      ⊎ (IsWeekDay year day_text date
      ⊎ ((day : ℕ) × IsField 3 1 366 day_text day × (date ≡ Ordinal year day)))
  pub joined : text ≡ year_text ++ (hyphen ++ day_text)
