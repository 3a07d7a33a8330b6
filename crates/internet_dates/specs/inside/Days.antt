-- Days by year, month and day: cited by private contracts alone.
use Rattle.std.specs.Prelude.{◌≡◌, ℕ, ◌≤◌, ℤ, pos}
use Rattle.iso8601.specs.Calendar.{day_of, Exists}
use Rattle.iso8601.specs.declared.types.Date.TheVariants.{YMD}

-- the day has this number, in a year from the first one on to 9999
pub record IsDay (first : ℕ) (number : ℤ) (year month day : ℕ) : Type 0 where
  pub least : first ≤ year
  pub most : year ≤ 9999
  pub real : Exists (YMD (pos year) month day)
  pub same : day_of (YMD (pos year) month day) ≡ number
