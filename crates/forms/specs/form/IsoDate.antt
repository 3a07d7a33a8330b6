-- Dates of ISO 8601-1:2019, 5.2: a day of the years -9999 to 9999, by month, by week or by its number in the year.
use Rattle.std.specs.Prelude.{◌≡◌, ℕ, ◌≤◌, ℤ, unsigned_abs, Result, Ok, Err}
use Rattle.iso8601.specs.Calendar.{day_of, Exists, IsCivilDay}
use Rattle.iso8601.specs.declared.types.Date.{Date}
use Rattle.iso8601.specs.declared.types.Date.TheVariants.{YMD}
use Rattle.forms.specs.declared.cause.Cause.{Cause}
use Rattle.forms.specs.declared.cause.Cause.TheVariants.{Kind}
use Rattle.forms.specs.declared.value.Value.{Value}
use Rattle.forms.specs.declared.value.Value.TheVariants.{Day}
use Rattle.forms.specs.Answers.{Judged}

-- the date's day, `NoSuchMoment` where there is no such day, or `Range` where it isn't of the years -9999 to 9999
abbrev pub Worth : Date → Result Value Cause → Type 0
Worth date = Judged (Exists date) (IsCivilDay (day_of date)) (Day (day_of date))

-- the date by year, month and day that has this day: each day that a text stands for has one, of the years -9999 to 9999
abbrev pub Holds : Value → Result Date Cause → Type 0
Holds (Day day) held =
    (year : ℤ) × (month : ℕ) × (n : ℕ)
    × (unsigned_abs year ≤ 9999) × Exists (YMD year month n) × (day_of (YMD year month n) ≡ day)
    × (held ≡ Ok (YMD year month n))
Holds _ held = held ≡ Err Kind
