-- What a reply is made of is one: cited by private contracts alone.
use Rattle.std.specs.Prelude.{◌≡◌, ℕ, List, Result}
use Rattle.pg_interval_2.specs.declared.interval.Interval.{Interval}
use Rattle.pg_interval_2.specs.declared.style.Style.{Style}
use Rattle.forms.specs.Forms.{Reads, Writes}
use Rattle.forms.specs.declared.cause.Cause.{Cause}
use Rattle.forms.specs.declared.form.Form.{Form}
use Rattle.forms.specs.declared.value.Value.{Value}
use Rattle.forms.specs.form.Intervals.{FindsInterval}
use Rattle.recurrence.specs.inside.Steps.{AreCalendarDates}

-- a text has one reading, a value one writing and a text one interval or cause, and dates are the calendar's
pub record AreOne : Type 0 where
  pub reading : (form : Form) (text : List ℕ) (a b : Result Value Cause)
      → Reads form text a → Reads form text b → a ≡ b
  pub writing : (form : Form) (value : Value) (a b : Result (List ℕ) Cause)
      → Writes form value a → Writes form value b → a ≡ b
  pub lengths : (style : Style) (text : List ℕ) (a b : Result Interval Cause)
      → FindsInterval style text a → FindsInterval style text b → a ≡ b
  pub dates : AreCalendarDates
