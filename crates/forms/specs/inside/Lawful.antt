-- The laws that each form keeps. No public contract cites them by this record: the laws in `laws` are theirs.
use Rattle.std.specs.Prelude.{◌≡◌, ◌≢◌, ℕ, List, Result, Ok, Err}
use Rattle.std.specs.Str.{IsAscii}
use Rattle.forms.specs.declared.cause.Cause.{Cause}
use Rattle.forms.specs.declared.cause.Cause.TheVariants.{Syntax}
use Rattle.forms.specs.declared.form.Form.{Form}
use Rattle.forms.specs.declared.value.Value.{Value}
use Rattle.forms.specs.Forms.{Reads, Writes}
use Rattle.forms.specs.ReadBack.{IsReadBack}
use Rattle.forms.specs.Values.{IsWithinBounds}

pub record Lawful (form : Form) : Type 0 where
  pub one : (text : List ℕ) (a b : Result Value Cause) → Reads form text a → Reads form text b
      → a ≡ b
  pub one_written : (value : Value) (a b : Result (List ℕ) Cause) → Writes form value a
      → Writes form value b → a ≡ b
  pub ascii : (text : List ℕ) (a : Result Value Cause) → Reads form text a → a ≢ Err Syntax → IsAscii text
  pub within : (text : List ℕ) (value : Value) → Reads form text (Ok value) → IsWithinBounds value
  pub back : (value : Value) (text : List ℕ) → IsWithinBounds value → Writes form value (Ok text)
      → IsReadBack form value text
