-- Durations of W3C XML Schema 1.1 part 2, section 3.3.6, which have one sign for the whole. What they spell is worth what an interval's
-- counts are worth.
use Rattle.std.specs.Prelude.{Result, Ok, Err, if◌then◌else◌}
use Rattle.pg_interval_2.specs.declared.interval.Interval.{Interval}
use Rattle.xsd_duration.specs.Written.{has_one_sign}
use Rattle.forms.specs.declared.cause.Cause.{Cause}
use Rattle.forms.specs.declared.cause.Cause.TheVariants.{Range}
use Rattle.forms.specs.declared.value.Value.{Value}
use Rattle.forms.specs.form.Intervals as interval

-- the interval, or `Range` where one part is above zero and another below
unfoldable pub of_one_sign : Interval → Result Interval Cause
of_one_sign t = if has_one_sign t then Ok t else Err Range

-- an interval that is held, if it has one sign; a cause stays as it is
abbrev pub if_one_sign : Result Interval Cause → Result Interval Cause
if_one_sign (Ok t) = of_one_sign t
if_one_sign (Err cause) = Err cause

-- the interval of a value
abbrev pub held : Value → Result Interval Cause
held value = if_one_sign (interval.held value)
