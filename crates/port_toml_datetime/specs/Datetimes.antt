-- Date-times, by the TOML specification 1.1: sections "Offset Date-Time", "Local Date-Time", "Local
-- Date" and "Local Time". A text is a date, a time, or both with an offset or without. None of
-- these goes before another.
use Rattle.std.specs.Prelude.{◌≡◌, ◌⊎◌, ℕ, List, [], ◌++◌, codes, Option, Some, None}
use Rattle.port_toml_datetime.specs.Dates.{IsFullDate}
use Rattle.port_toml_datetime.specs.Times.{IsPartialTime}
use Rattle.port_toml_datetime.specs.Offsets.{IsTimeOffset}
use Rattle.port_toml_datetime.specs.declared.date.Date.{Date}
use Rattle.port_toml_datetime.specs.declared.time.Time.{Time}
use Rattle.port_toml_datetime.specs.declared.offset.Offset.{Offset}
use Rattle.port_toml_datetime.specs.declared.datetime.Datetime.{Datetime}

-- the date-time of the parts that are there
abbrev pub datetime_of : Option Date → Option Time → Option Offset → Datetime
datetime_of d t o = record { date = d; time = t; offset = o }

-- an offset date-time or a local date-time: a date, a delimiter and a time, with an offset or
-- without
pub record IsDateAndTime (text : List ℕ) (value : Datetime) : Type 0 where
  pub date_text : List ℕ
  pub delimiter : List ℕ
  pub time_text : List ℕ
  pub offset_text : List ℕ
  pub date : Date
  pub time : Time
  pub offset : Option Offset
  pub dates : IsFullDate date_text date
  pub delimits : (delimiter ≡ codes "T") ⊎ ((delimiter ≡ codes "t") ⊎ (delimiter ≡ codes " "))
  pub times : IsPartialTime time_text time
  pub offsets : ((offset_text ≡ []) × (offset ≡ None))
      ⊎ ((o : Offset) × IsTimeOffset offset_text o × (offset ≡ Some o))
  pub joined : text ≡ date_text ++ (delimiter ++ (time_text ++ offset_text))
  pub made : value ≡ datetime_of (Some date) (Some time) offset

-- the text is a date-time, a local date, or a local time
abbrev pub IsDatetime : List ℕ → Datetime → Type 0
IsDatetime text value =
    IsDateAndTime text value
    ⊎ (((date : Date) × IsFullDate text date × (value ≡ datetime_of (Some date) None None))
    ⊎ ((time : Time) × IsPartialTime text time × (value ≡ datetime_of None (Some time) None)))
