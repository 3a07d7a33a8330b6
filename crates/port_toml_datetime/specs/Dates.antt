-- Dates, by the TOML specification 1.1, section "Local Date", and `full-date` of its grammar: a
-- real day of a year from 0000 to 9999. Leap years are those of RFC 3339, appendix C.
use Rattle.std.specs.Prelude.{◌≡◌, ℕ, pos, List, ◌++◌, codes}
use Rattle.scan_core.specs.Calendar.{days_in_month}
use Rattle.scan_core.specs.Fields.{IsField}
use Rattle.port_toml_datetime.specs.declared.date.Date.{Date}

-- `YYYY-MM-DD`
pub record IsFullDate (text : List ℕ) (date : Date) : Type 0 where
  pub year_text : List ℕ
  pub month_text : List ℕ
  pub day_text : List ℕ
  pub years : IsField 4 0 9999 year_text date.year
  pub months : IsField 2 1 12 month_text date.month
  pub days : IsField 2 1 (days_in_month (pos date.year) date.month) day_text date.day
  pub joined : text ≡ year_text ++ (codes "-" ++ (month_text ++ (codes "-" ++ day_text)))
