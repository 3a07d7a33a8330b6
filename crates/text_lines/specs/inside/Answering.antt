-- What is put for a line with a text at a place: cited by private contracts alone.
use Rattle.std.specs.Prelude.{◌≡◌, ℕ, Bool, List, ◌++◌}
use Rattle.forms.specs.declared.form.Form.{Form}
use Rattle.text_lines.specs.declared.place.Place.{Place}
use Rattle.text_lines.specs.Outputs.{IsOutput}

-- the output for a line was put behind what waits
abbrev pub PushesOutput : Form → Form → Place → Bool → List ℕ → List ℕ → List ℕ → Bool → Type 0
PushesOutput from to place first line before after refused =
    (out : List ℕ) × IsOutput from to place first line out refused × (after ≡ before ++ out)
