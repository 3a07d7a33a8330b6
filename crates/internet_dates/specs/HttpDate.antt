-- Dates of HTTP: RFC 9110, section 5.6.7, but for the form of RFC 850, which that section has recipients accept: its years have two digits.
use Rattle.std.specs.Prelude.{◌≡◌, ◌⊎◌, ℕ, pos, List, ◌++◌, codes, Some}
use Rattle.scan_core.specs.Fields.{IsField}
use Rattle.internet_dates.specs.Fields.{IsFullClock}
use Rattle.internet_dates.specs.Names.{IsDayName, IsMonthName}
use Rattle.internet_dates.specs.declared.date_time.DateTime.{DateTime}

-- IMF-fixdate: `Sun, 06 Nov 1994 08:49:37 GMT`
pub record IsFixdate (text : List ℕ) (t : DateTime) : Type 0 where
  pub name : List ℕ
  pub day_text : List ℕ
  pub month : List ℕ
  pub year_text : List ℕ
  pub clock : List ℕ
  pub weekday : ℕ
  pub names : IsDayName name weekday
  pub days : IsField 2 1 31 day_text t.day
  pub months : IsMonthName month t.month
  pub years : IsField 4 0 9999 year_text t.year
  pub clocks : IsFullClock clock t.hour t.minute t.second
  pub named : t.weekday ≡ Some weekday
  pub utc : t.offset ≡ pos 0
  pub joined : text
      ≡ name ++ (codes ", " ++ (day_text ++ (codes " " ++ (month ++ (codes " "
      ++ (year_text ++ (codes " " ++ (clock ++ codes " GMT"))))))))

-- the day of asctime's form: two digits, or a blank and one
abbrev pub IsPaddedDay : List ℕ → ℕ → Type 0
IsPaddedDay text day =
    IsField 2 1 31 text day
    ⊎ ((digit : List ℕ) × IsField 1 1 9 digit day × (text ≡ codes " " ++ digit))

-- the form of ANSI C's asctime: `Sun Nov  6 08:49:37 1994`
pub record IsAsctimeDate (text : List ℕ) (t : DateTime) : Type 0 where
  pub name : List ℕ
  pub month : List ℕ
  pub day_text : List ℕ
  pub clock : List ℕ
  pub year_text : List ℕ
  pub weekday : ℕ
  pub names : IsDayName name weekday
  pub months : IsMonthName month t.month
  pub days : IsPaddedDay day_text t.day
  pub clocks : IsFullClock clock t.hour t.minute t.second
  pub years : IsField 4 0 9999 year_text t.year
  pub named : t.weekday ≡ Some weekday
  pub utc : t.offset ≡ pos 0
  pub joined : text
      ≡ name ++ (codes " " ++ (month ++ (codes " " ++ (day_text ++ (codes " "
      ++ (clock ++ (codes " " ++ year_text)))))))

-- the text is a date of HTTP with these fields
abbrev pub IsHttpDate : List ℕ → DateTime → Type 0
IsHttpDate text t = IsFixdate text t ⊎ IsAsctimeDate text t
