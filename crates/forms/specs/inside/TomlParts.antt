-- Parts of values of TOML by names that private contracts and proofs alone cite.
use Rattle.std.specs.Prelude.{ℕ, ◌+◌, ◌*◌, ◌%◌, ◌==◌, ℤ, pos, unwrap_or, Option, Some, None, Result, if◌then◌else◌}
use Rattle.iso8601.specs.Calendar.{day_of as calendar_day}
use Rattle.iso8601.specs.declared.types.Date.TheVariants.{YMD}
use Rattle.port_toml_datetime.specs.declared.date.Date.{Date}
use Rattle.port_toml_datetime.specs.declared.time.Time.{Time}
use Rattle.port_toml_datetime.specs.declared.datetime.Datetime.{Datetime}
use Rattle.forms.specs.declared.cause.Cause.{Cause}
use Rattle.forms.specs.declared.value.Value.{Value}
use Rattle.forms.specs.form.Toml.{worth_of}

-- the number of a date's day, by the calendar of ISO 8601
abbrev pub day_of : Date → ℤ
day_of d = calendar_day (YMD (pos d.year) d.month d.day)

-- nanoseconds since midnight, where seconds and nanoseconds that aren't written are 0
abbrev pub clock_of : Time → ℕ
clock_of t =
    ((t.hour * 60 + t.minute) * 60 + unwrap_or t.second 0) * 1_000_000_000
    + unwrap_or t.nanosecond 0

abbrev pub worth : Datetime → Result Value Cause
worth d = worth_of d.date d.time d.offset

-- the nanoseconds of a second, where they aren't 0
abbrev pub fraction_of : ℕ → Option ℕ
fraction_of nanos = if (nanos % 1_000_000_000 == 0) then None else Some (nanos % 1_000_000_000)
