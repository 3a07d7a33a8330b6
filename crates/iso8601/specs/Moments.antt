-- The civil times and the moments that times and date-times name (ISO 8601-1:2019, 5.3 and 5.4).
use Rattle.std.specs.Prelude.{◌≡◌, ◌*◌, ◌<◌, ℤ, pos, unsigned_abs, ◌+ℤ◌, ◌*ℤ◌}
use Rattle.jiff_core.specs.Date.{epoch_day}
use Rattle.jiff_core.specs.declared.civil.time.Time.{Time as CivilTime}
use Rattle.iso8601.specs.Calendar.{day_of, Exists, IsCivilDay}
use Rattle.iso8601.specs.declared.types.Time.{Time}
use Rattle.iso8601.specs.declared.types.DateTime.{DateTime}
use Rattle.iso8601.specs.declared.types.FixedMoment.{FixedMoment}

-- a clock shows these fields: no second 60, no hour 24, and no 1000 milliseconds or more
abbrev pub IsOnClock : Time → Type 0
IsOnClock t = (t.hour < 24) × (t.minute < 60) × (t.second < 60) × (t.millisecond < 1000)

-- the civil time has the fields, and the offset isn't in it
abbrev pub IsCivilTime : Time → CivilTime → Type 0
IsCivilTime t civil =
    (civil.hour ≡ t.hour) × (civil.minute ≡ t.minute) × (civil.second ≡ t.second)
    × (civil.subsec_nanosecond ≡ 1_000_000 * t.millisecond)

-- how many seconds a time is ahead of UTC
abbrev pub offset_of : Time → ℤ
offset_of t = (pos 3600 *ℤ t.tz_offset_hours) +ℤ (pos 60 *ℤ t.tz_offset_minutes)

-- there is such a day, it is a civil one, a clock shows the time, and the offset is less than a day
abbrev pub IsMoment : DateTime → Type 0
IsMoment t =
    Exists t.date × IsCivilDay (day_of t.date) × IsOnClock t.time
    × (unsigned_abs (offset_of t.time) < 86_400)

-- the moment has the date-time's day, clock and offset
abbrev pub IsMomentOf : DateTime → FixedMoment → Type 0
IsMomentOf t moment =
    (epoch_day moment.local.date ≡ day_of t.date) × IsCivilTime t.time moment.local.time
    × (moment.offset_seconds ≡ offset_of t.time)
