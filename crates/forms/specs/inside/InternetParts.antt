-- What the readers of dates of HTTP and of mail answer, as the forms hand it on: cited by private contracts alone.
use Rattle.std.specs.Prelude.{ℤ, pos, ◌*ℤ◌, Result, Ok, Err}
use Rattle.internet_dates.specs.declared.error.DateError.{DateError}
use Rattle.internet_dates.specs.declared.error.DateError.TheVariants as date
use Rattle.forms.specs.declared.cause.Cause.{Cause}
use Rattle.forms.specs.declared.cause.Cause.TheVariants.{Syntax, NoSuchMoment, Range}
use Rattle.forms.specs.declared.value.Value.{Value}
use Rattle.forms.specs.declared.value.Value.TheVariants.{Instant}

-- the moment in nanoseconds, or the cause
abbrev pub answered : Result ℤ DateError → Result Value Cause
answered (Ok seconds) = Ok (Instant (seconds *ℤ pos 1_000_000_000))
answered (Err date.Syntax) = Err Syntax
answered (Err date.NoSuchMoment) = Err NoSuchMoment
answered (Err date.Range) = Err Range
