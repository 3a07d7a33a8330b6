-- Parts of short durations by names that private contracts and proofs alone cite.
use Rattle.std.specs.Prelude.{ℕ, ℤ, pos, Result, Err, if◌then◌else◌}
use Rattle.std.specs.Ordering.{int_eq}
use Rattle.forms.specs.declared.cause.Cause.{Cause}
use Rattle.forms.specs.declared.cause.Cause.TheVariants.{Kind}
use Rattle.forms.specs.Values.{nanos_of}
use Rattle.forms.specs.form.Fancy.{length_of}

-- the length of a triple without months
abbrev pub length_of_triple : ℤ → ℤ → ℤ → Result ℕ Cause
length_of_triple months days micros =
    if int_eq months (pos 0) then length_of (nanos_of days micros) else Err Kind
