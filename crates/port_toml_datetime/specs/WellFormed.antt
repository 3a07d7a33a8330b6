-- Values that a date-time of TOML has: one of the four kinds, each part in its range.
use Rattle.std.specs.Prelude.{ℕ, ◌<◌, ◌≤◌, ◌^◌, ⊤, pos, negsuc, Option, Some, None}
use Rattle.scan_core.specs.Calendar.{days_in_month}
use Rattle.port_toml_datetime.specs.declared.date.Date.{Date}
use Rattle.port_toml_datetime.specs.declared.time.Time.{Time}
use Rattle.port_toml_datetime.specs.declared.offset.Offset.{Offset}
use Rattle.port_toml_datetime.specs.declared.offset.Offset.TheVariants.{Z, Custom}
use Rattle.port_toml_datetime.specs.declared.datetime.Datetime.{Datetime}

-- a real day of a year from 0 to 9999
pub record IsRealDay (d : Date) : Type 0 where
  pub year : d.year ≤ 9999
  pub month : 1 ≤ d.month
  pub months : d.month ≤ 12
  pub day : 1 ≤ d.day
  pub days : d.day ≤ days_in_month (pos d.year) d.month

-- a second wherever there are nanoseconds
abbrev pub AreRealSeconds : Option ℕ → Option ℕ → Type 0
AreRealSeconds None None = ⊤
AreRealSeconds None (Some n) = ⊥
AreRealSeconds (Some s) None = s ≤ 60
AreRealSeconds (Some s) (Some n) = (s ≤ 60) × (n < 10 ^ 9)

-- a time of day, in which 60 stands for a leap second
pub record IsRealTime (t : Time) : Type 0 where
  pub hour : t.hour ≤ 23
  pub minute : t.minute ≤ 59
  pub seconds : AreRealSeconds t.second t.nanosecond

-- an offset of less than a day: of 1439 minutes at most, either way
abbrev pub IsOffsetInRange : Offset → Type 0
IsOffsetInRange Z = ⊤
IsOffsetInRange (Custom (pos n)) = n ≤ 1439
IsOffsetInRange (Custom (negsuc n)) = n < 1439

-- the parts of an offset date-time, a local date-time, a local date or a local time (TOML 1.1), each in its range
abbrev pub AreWellFormed : Option Date → Option Time → Option Offset → Type 0
AreWellFormed (Some d) (Some t) (Some o) = IsRealDay d × IsRealTime t × IsOffsetInRange o
AreWellFormed (Some d) (Some t) None = IsRealDay d × IsRealTime t
AreWellFormed (Some d) None None = IsRealDay d
AreWellFormed None (Some t) None = IsRealTime t
AreWellFormed (Some d) None (Some o) = ⊥
AreWellFormed None None o = ⊥
AreWellFormed None (Some t) (Some o) = ⊥

-- a date-time of one of the four kinds, each part in its range
abbrev pub IsWellFormed : Datetime → Type 0
IsWellFormed d = AreWellFormed d.date d.time d.offset
