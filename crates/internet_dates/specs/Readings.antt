-- What a text is read as: a moment, or why it is none.
use Rattle.std.specs.Prelude.{◌≡◌, ℕ, ◌<◌, ◌≤◌, ℤ, List, Result, Ok, Err}
use Rattle.internet_dates.specs.DateTimes.{IsRealMoment, seconds_of}
use Rattle.internet_dates.specs.declared.date_time.DateTime.{DateTime}
use Rattle.internet_dates.specs.declared.error.DateError.{DateError}
use Rattle.internet_dates.specs.declared.error.DateError.TheVariants.{Syntax, NoSuchMoment, Range}

-- What a text of a grammar is read as, of years from a first one on. `Syntax`: it isn't in the grammar. `NoSuchMoment`: no calendar
-- has the day, or it is another day of the week, or no clock shows the time, or the offset is a day or more. `Range`: there is such a
-- moment, and its year as it is written is before the first one.
abbrev pub IsRead : (List ℕ → DateTime → Type 0) → ℕ → List ℕ → Result ℤ DateError → Type 0
IsRead Spells first text (Err Syntax) = (t : DateTime) → Spells text t → ⊥
IsRead Spells first text (Err NoSuchMoment) = (t : DateTime) × Spells text t × (IsRealMoment t → ⊥)
IsRead Spells first text (Err Range) =
    (t : DateTime) × Spells text t × IsRealMoment t × (t.year < first)
IsRead Spells first text (Ok seconds) =
    (t : DateTime) × Spells text t × IsRealMoment t × (first ≤ t.year) × (seconds ≡ seconds_of t)
