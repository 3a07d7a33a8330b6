-- The share of a count: its months, days and microseconds, by PostgreSQL's reckoning of units
-- (its manual, section 8.5.4, "Interval Input"): 12 months a year, 30 days a month, 7 days a week, 24 hours a day. The fraction
-- of a week is counted in whole days, where PostgreSQL counts it in days and hours.
use Rattle.std.specs.Prelude.{ℕ, ◌+◌, ◌-◌, ◌*◌, ◌/◌, ◌^◌, Bool, nat_lt, List, length, ℤ, pos, negsuc, neg_ℤ, if◌then◌else◌}
use Rattle.scan_core.specs.Digits.{number_of}
use Rattle.scan_core.specs.Count.{Count}
use Rattle.scan_core.specs.declared.share.Unit.{Unit as TimeUnit}
use Rattle.scan_core.specs.declared.share.Unit.TheVariants.{Year, Month, Week, Day, Hour, Minute, Second}
use Rattle.scan_core.specs.declared.share.Part.{Part}
use Rattle.scan_core.specs.declared.share.Part.TheVariants.{Months, Days, Micros}

-- The fraction 0.F of a unit in the next smaller one, of which so many make one, rounded half away from zero:
-- the floor of F * scale / 10^n + 1/2, where n is the number of F's digits.
unfoldable pub rounded : ℕ → List ℕ → ℕ
rounded scale fraction =
    (2 * number_of fraction * scale + 10 ^ length fraction) / (2 * 10 ^ length fraction)

-- one part of w whole units and the fraction 0.F of one, before the sign
abbrev pub amount : Part → TimeUnit → ℕ → List ℕ → ℕ
amount Months Year w f = 12 * w + rounded 12 f
amount Months Month w f = w
amount Months _ w f = 0
amount Days Month w f = rounded 30 f
amount Days Week w f = 7 * w + rounded 7 f
amount Days Day w f = w
amount Days _ w f = 0
amount Micros Day w f = rounded 24 f * 3_600_000_000
amount Micros Hour w f = w * 3_600_000_000 + rounded 60 f * 60_000_000
amount Micros Minute w f = w * 60_000_000 + rounded 60 f * 1_000_000
amount Micros Second w f = w * 1_000_000 + rounded 1_000_000 f
amount Micros _ w f = 0

-- a magnitude with its sign
abbrev pub signed : Bool → ℕ → ℤ
signed negative n = if negative then neg_ℤ (pos n) else pos n

-- one part of a count's share
abbrev pub share : Part → Count → ℤ
share part c = signed c.negative (amount part c.unit (number_of c.whole) c.fraction)

-- the part in which a unit's whole digits are counted, and the only one that can leave its type
abbrev pub main_part : TimeUnit → Part
main_part Year = Months
main_part Month = Months
main_part Week = Days
main_part Day = Days
main_part Hour = Micros
main_part Minute = Micros
main_part Second = Micros

-- a signed type of this many bits, two's complement, has the number
abbrev pub is_within : ℕ → ℤ → Bool
is_within bits (pos n) = nat_lt n (2 ^ (bits - 1))
is_within bits (negsuc n) = nat_lt n (2 ^ (bits - 1))

-- the part's type has the number: months and days are `i32`, microseconds are `i64`
abbrev pub fits_type : Part → ℤ → Bool
fits_type Months z = is_within 32 z
fits_type Days z = is_within 32 z
fits_type Micros z = is_within 64 z

-- the count has a share: the part in which its whole digits are counted is in its type, and so are the others then
abbrev pub has_share : Count → Bool
has_share c = fits_type (main_part c.unit) (share (main_part c.unit) c)
