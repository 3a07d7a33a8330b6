-- Date-times as jiff has them: cited by private contracts alone.
use Rattle.std.specs.Prelude.{◌≡◌, ◌⊎◌, ◌/◌, ◌%◌, ◌==◌, pos, Result, Ok, Err, if◌then◌else◌}
use Rattle.jiff_core.specs.DateTime.{civil_nanos, IsCivilNanos}
use Rattle.jiff_core.specs.declared.civil.datetime.DateTime.{DateTime as CivilDateTime}
use Rattle.iso8601.specs.declared.types.DateTime.{DateTime}
use Rattle.forms.specs.declared.cause.Cause.{Cause}
use Rattle.forms.specs.declared.cause.Cause.TheVariants.{Range, Kind, Precision}
use Rattle.forms.specs.declared.value.Value.{Value}
use Rattle.forms.specs.declared.value.Value.TheVariants.{Instant}
use Rattle.forms.specs.inside.CivilDates.{date_of}

-- with offset `+00:00`
abbrev pub utc : CivilDateTime → DateTime
utc c = record {
  date = date_of c.date;
  time = record {
    hour = c.time.hour;
    minute = c.time.minute;
    second = c.time.second;
    millisecond = c.time.subsec_nanosecond / 1_000_000;
    tz_offset_hours = pos 0;
    tz_offset_minutes = pos 0;
  };
}

-- the same, where the milliseconds are whole
unfoldable pub in_millis : CivilDateTime → Result DateTime Cause
in_millis c = if (c.time.subsec_nanosecond % 1_000_000 == 0) then Ok (utc c) else Err Precision

-- the civil date-time in UTC of the moment, or `Range` where the civil years have none
abbrev pub HoldsCivil : Value → Result DateTime Cause → Type 0
HoldsCivil (Instant nanos) held =
    ((c : CivilDateTime) × (civil_nanos c ≡ nanos) × (held ≡ in_millis c))
    ⊎ ((IsCivilNanos nanos → ⊥) × (held ≡ Err Range))
HoldsCivil _ held = held ≡ Err Kind
