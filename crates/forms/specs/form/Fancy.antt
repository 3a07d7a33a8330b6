-- Short durations in the units of the crate `fancy-duration`: a text of counts and nothing else, or `0`, stands for a length.
use Rattle.std.specs.Prelude.{ℕ, ◌*◌, ◌%◌, ◌^◌, ◌&&◌, Bool, ℤ, pos, negsuc, ◌+ℤ◌, ◌*ℤ◌, Result, Ok, Err, nat_le, nat_lt, if◌then◌else◌}
use Rattle.std.specs.Ordering.{int_eq}
use Rattle.fancy_duration.specs.Parts.{weight_of}
use Rattle.fancy_duration.specs.declared.part.DurationPart.TheVariants.{Years, Months, Minutes}
use Rattle.forms.specs.declared.cause.Cause.{Cause}
use Rattle.forms.specs.declared.cause.Cause.TheVariants.{Range, Kind, Ambiguous}
use Rattle.forms.specs.declared.value.Value.{Value}
use Rattle.forms.specs.declared.value.Value.TheVariants.{Triple, Length}

-- the length, or `Range` where it has 2^64 seconds or more
unfoldable pub worth : ℕ → Result Value Cause
worth nanos = if nat_lt nanos (2 ^ 64 * 1_000_000_000) then Ok (Length nanos) else Err Range

-- Beyond its whole years the length has a month or more, and beyond its whole months less than a minute: so it has months and no weeks,
-- days, hours or minutes, and the `m` of its written text would be read as minutes.
unfoldable pub has_months_alone : ℕ → Bool
has_months_alone nanos =
    let left = nanos % weight_of Years in
    nat_le (weight_of Months) left && nat_lt (left % weight_of Months) (weight_of Minutes)

-- a length, `Range` where it is negative or has 2^64 seconds or more, and else `Ambiguous` where its months stand alone
unfoldable pub length_of : ℤ → Result ℕ Cause
length_of (negsuc n) = Err Range
length_of (pos nanos) =
    if nat_lt nanos (2 ^ 64 * 1_000_000_000)
    then (if has_months_alone nanos then Err Ambiguous else Ok nanos)
    else Err Range

-- the length of a value: of a triple that of its days and microseconds; a triple with months, and any other kind, is `Kind`
abbrev pub held : Value → Result ℕ Cause
held (Length nanos) = length_of (pos nanos)
held (Triple months days micros) =
    if int_eq months (pos 0)
    then length_of ((days *ℤ pos 86_400_000_000 +ℤ micros) *ℤ pos 1000) else Err Kind
held _ = Err Kind
