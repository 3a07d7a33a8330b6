-- From one form into another, and that a written text is read back.
use Rattle.std.specs.Prelude.{ℕ, List, Result, Ok}
use Rattle.forms.specs.declared.cause.Cause.{Cause}
use Rattle.forms.specs.declared.form.Form.{Form}
use Rattle.forms.specs.declared.value.Value.{Value}
use Rattle.forms.specs.Answers.{Then}
use Rattle.forms.specs.Forms.{Reads, Writes}
use Rattle.forms.specs.Values.{Same}

-- what the second form writes of what the first reads
abbrev pub Turns : Form → Form → List ℕ → Result (List ℕ) Cause → Type 0
Turns from to text answer =
    (value : Result Value Cause) × Reads from text value × Then (Writes to) value answer

-- the text stands for a value that is the same as this one, and that value's text is this text
pub record IsReadBack (form : Form) (value : Value) (text : List ℕ) : Type 0 where
  pub back : Value
  pub read : Reads form text (Ok back)
  pub same : Same value back
  pub again : Writes form back (Ok text)
