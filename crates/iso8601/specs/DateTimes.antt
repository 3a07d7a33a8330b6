-- Date-times (ISO 8601-1:2019, 5.4): a date, `T`, and a time.
use Rattle.std.specs.Prelude.{◌≡◌, List, ◌++◌, ℕ, codes}
use Rattle.iso8601.specs.Dates.{IsDate}
use Rattle.iso8601.specs.Times.{IsTime}
use Rattle.iso8601.specs.declared.types.DateTime.{DateTime}

-- the text is a date-time
pub record IsDateTime (text : List ℕ) (value : DateTime) : Type 0 where
  pub date_text : List ℕ
  pub time_text : List ℕ
  pub dates : IsDate date_text value.date
  pub times : IsTime time_text value.time
  pub joined : text ≡ date_text ++ (codes "T" ++ time_text)
