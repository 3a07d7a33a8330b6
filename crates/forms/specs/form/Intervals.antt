-- The interval forms, each a style of intervals: counts of units, whose sums are an interval.
use Rattle.std.specs.Prelude.{ℕ, ◌/◌, ◌%◌, ◌==◌, ◌&&◌, List, ℤ, pos, Result, Ok, Err, if◌then◌else◌}
use Rattle.scan_core.specs.Count.{Count}
use Rattle.scan_core.specs.Shares.{fits_type}
use Rattle.scan_core.specs.Sums.{total, fits}
use Rattle.scan_core.specs.declared.share.Part.{Part}
use Rattle.scan_core.specs.declared.share.Part.TheVariants.{Months, Days, Micros}
use Rattle.pg_interval_2.specs.Denotes.{Denotes, HasNoShape, Misfits}
use Rattle.pg_interval_2.specs.Styles.{Shape}
use Rattle.pg_interval_2.specs.declared.interval.Interval.{Interval}
use Rattle.pg_interval_2.specs.declared.style.Style.{Style}
use Rattle.forms.specs.declared.cause.Cause.{Cause}
use Rattle.forms.specs.declared.cause.Cause.TheVariants.{Syntax, Range, Kind, Precision}
use Rattle.forms.specs.declared.value.Value.{Value}
use Rattle.forms.specs.declared.value.Value.TheVariants.{Triple, Length}

-- what an interval form finds of a text: the interval that it denotes, `Syntax` where it spells none, `Range` where its counts don't fit
abbrev pub FindsInterval : Style → List ℕ → Result Interval Cause → Type 0
FindsInterval style text (Ok t) = Denotes (Shape style) text t
FindsInterval style text (Err Syntax) = HasNoShape (Shape style) text
FindsInterval style text (Err Range) = (part : Part) × Misfits (Shape style) text part
FindsInterval style text (Err _) = ⊥

-- the sums of counts that fit
unfoldable pub worth : List Count → Result Value Cause
worth counts =
    if fits counts then Ok (Triple (total Months counts) (total Days counts) (total Micros counts))
    else Err Range

-- the interval of three parts that fit its types
unfoldable pub interval_of : ℤ → ℤ → ℤ → Result Interval Cause
interval_of months days micros =
    if fits_type Months months && (fits_type Days days && fits_type Micros micros)
    then Ok (record { months = months; days = days; microseconds = micros })
    else Err Range

-- the interval of a length: as many whole days of 86_400 seconds as fit, and the microseconds beyond them, which are whole
unfoldable pub interval_of_length : ℕ → Result Interval Cause
interval_of_length nanos =
    if fits_type Days (pos (nanos / 86_400_000_000_000))
    then (
    if (nanos % 1000 == 0)
    then Ok (record {
      months = pos 0;
      days = pos (nanos / 86_400_000_000_000);
      microseconds = pos (nanos % 86_400_000_000_000 / 1000);
    })
    else Err Precision
    )
    else Err Range

-- the interval of a value
abbrev pub held : Value → Result Interval Cause
held (Triple months days micros) = interval_of months days micros
held (Length nanos) = interval_of_length nanos
held _ = Err Kind
