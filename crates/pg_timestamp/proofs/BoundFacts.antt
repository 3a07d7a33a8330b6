-- The numbers of the first and the last day.
use Rattle.std.proofs.Common.{◌≡◌, refl}
use Rattle.std.specs.Prelude.{pos, neg_ℤ}
use Rattle.iso8601.specs.Calendar.{day_of, days_of_months, new_year}
use Rattle.iso8601.specs.declared.types.Date.TheVariants.{YMD}
use Rattle.pg_timestamp.specs.Values.{first_day, last_day}

pub first_is : day_of (YMD (neg_ℤ (pos 4713)) 11 24) ≡ first_day
unfolding new_year days_of_months
first_is = refl

pub last_is : day_of (YMD (pos 9999) 12 31) ≡ last_day
unfolding new_year days_of_months
last_is = refl
