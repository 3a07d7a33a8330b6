-- Requests by their parts, as they are read: cited by private contracts alone.
use Rattle.std.specs.Prelude.{◌≡◌, ◌⊎◌, ℕ, List, [], ◌++◌, codes, IsUtf8}
use Rattle.forms.specs.declared.form.Form.{Form}
use Rattle.forms.specs.Names.{name_of}
use Rattle.forms.specs.Replies.{IsRequest}

-- what follows the names of a request: the end, which stands for the empty text, or a space and the text
abbrev pub IsTail : List ℕ → List ℕ → Type 0
IsTail text tail = ((text ≡ []) × (tail ≡ [])) ⊎ (tail ≡ codes " " ++ text)

-- the same as a request, by what follows its names
pub record HasRequest (line : List ℕ) (from to : Form) (text : List ℕ) : Type 0 where
  pub tail : List ℕ
  pub utf8 : IsUtf8 line
  pub rest : IsTail text tail
  pub joined : line ≡ name_of from ++ (codes " " ++ (name_of to ++ tail))

-- the line is two names and a text, which may be no UTF-8
pub record HasNames (line : List ℕ) (from to : Form) (text : List ℕ) : Type 0 where
  pub tail : List ℕ
  pub rest : IsTail text tail
  pub joined : line ≡ name_of from ++ (codes " " ++ (name_of to ++ tail))

-- the line is no request
abbrev pub IsNoRequest : List ℕ → Type 0
IsNoRequest line = (from to : Form) (text : List ℕ) → IsRequest line from to text → ⊥
