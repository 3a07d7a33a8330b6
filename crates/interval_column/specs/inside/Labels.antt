-- Names in front of texts: cited by private contracts alone.
use Rattle.std.specs.Prelude.{◌≡◌, ℕ, List, Some}
use Rattle.pg_interval_2.specs.declared.style.Style.{Style}
use Rattle.forms.specs.Names.{name_of, style_of}
use Rattle.forms.specs.declared.form.Form.{Form}
use Rattle.interval_column.specs.Lines.{IsEntry, IsLabelled}

-- the text is the name of the interval form of this style, and the rest
pub record IsStyled (whole : List ℕ) (style : Style) (rest : List ℕ) : Type 0 where
  pub form : Form
  pub named : style_of form ≡ Some style
  pub labelled : IsLabelled whole (name_of form) rest

-- no text is labelled so
abbrev pub IsNotStyled : List ℕ → Type 0
IsNotStyled whole = (style : Style) (rest : List ℕ) → IsStyled whole style rest → ⊥

-- the line is no entry
abbrev pub IsNoEntry : List ℕ → Type 0
IsNoEntry line = (style : Style) (text : List ℕ) → IsEntry line style text → ⊥
