-- The shares of counts in two steps: the fraction is rounded in the next smaller unit, and then both are parts.
use Rattle.std.specs.Prelude.{ℕ, ◌+◌, ◌*◌}
use Rattle.scan_core.specs.declared.share.Unit.{Unit as TimeUnit}
use Rattle.scan_core.specs.declared.share.Unit.TheVariants.{Year, Month, Week, Day, Hour, Minute, Second}
use Rattle.scan_core.specs.declared.share.Part.{Part}
use Rattle.scan_core.specs.declared.share.Part.TheVariants.{Months, Days, Micros}

-- how many of the next smaller unit make one: months, days, days, hours, minutes, seconds, microseconds
abbrev pub scale_of : TimeUnit → ℕ
scale_of Year = 12
scale_of Month = 30
scale_of Week = 7
scale_of Day = 24
scale_of Hour = 60
scale_of Minute = 60
scale_of Second = 1_000_000

-- one part of w units and r of the next smaller one, before the sign
abbrev pub magnitude : Part → TimeUnit → ℕ → ℕ → ℕ
magnitude Months Year w r = 12 * w + r
magnitude Months Month w r = w
magnitude Months _ w r = 0
magnitude Days Month w r = r
magnitude Days Week w r = 7 * w + r
magnitude Days Day w r = w
magnitude Days _ w r = 0
magnitude Micros Day w r = r * 3_600_000_000
magnitude Micros Hour w r = w * 3_600_000_000 + r * 60_000_000
magnitude Micros Minute w r = w * 60_000_000 + r * 1_000_000
magnitude Micros Second w r = w * 1_000_000 + r
magnitude Micros _ w r = 0
