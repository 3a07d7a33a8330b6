-- Civil instants by their nanoseconds.
use Rattle.std.proofs.Common.{◌≡◌, ℕ, List, Option, Result, ◌<◌, ◌^◌, ℤ, pos, refl, subst, arith}
use Rattle.std.specs.Prelude.{neg_ℤ, ◌+ℤ◌, ◌*ℤ◌, ◌≤ℤ◌}
use Rattle.std.proofs.lemmas.Int.{ints}
use Rattle.jiff.specs.Words.{IsWithin}
use Rattle.iso8601.specs.Calendar.{day_of, days_of_months, new_year}
use Rattle.iso8601.specs.declared.types.Date.TheVariants.{YMD}
use Rattle.forms.specs.Forms.{Reads}
use Rattle.forms.specs.declared.cause.Cause.{Cause}
use Rattle.forms.specs.declared.form.Form.{Form}
use Rattle.forms.specs.declared.value.Value.{Value}
use Rattle.pg_interval_2.specs.declared.interval.Interval.{Interval}
use Rattle.recurrence.specs.Instants.{IsAt, IsCivilInstant}

first_civil : day_of (YMD (neg_ℤ (pos 9999)) 1 1) ≡ neg_ℤ (pos 4_371_587)
unfolding new_year days_of_months
first_civil = refl

last_civil : day_of (YMD (pos 9999) 12 31) ≡ pos 2_932_896
unfolding new_year days_of_months
last_civil = refl

in_days : (z day : ℤ) (nanos : ℕ) → nanos < 86_400_000_000_000 → z ≡ day *ℤ pos 86_400_000_000_000 +ℤ pos nanos
    → neg_ℤ (pos 4_371_587) ≤ℤ day → day ≤ℤ pos 2_932_896 → IsWithin (10 ^ 22) z
in_days z day nanos below same first last = (omega (arith, ints), omega (arith, ints))

-- an instant of a civil day is less than 10^13 seconds from 1970
pub civil_within : (z : ℤ) → IsCivilInstant z → IsWithin (10 ^ 22) z
civil_within z (day, nanos, within, civil) =
    in_days z day nanos within.below within.same (subst (λ (low : ℤ). low ≤ℤ day) first_civil civil.0)
    (subst (λ (high : ℤ). day ≤ℤ high) last_civil civil.1)

-- what is at a start and a step is at those that are the same
pub at_again : (start same_start : ℤ) (step same_step : Interval) (k : ℕ) (answer : Option ℤ) → start ≡ same_start → step ≡ same_step
    → IsAt same_start same_step k answer → IsAt start step k answer
at_again start same_start step same_step k answer starts steps is = rw (starts, steps) is

-- what a text is read as in a form, the same text is in the same form
pub reads_again : (form same_form : Form) (given text : List ℕ) (answer : Result Value Cause) → form ≡ same_form → given ≡ text
    → Reads same_form text answer → Reads form given answer
reads_again form same_form given text answer forms texts reads = rw (forms, texts) reads
