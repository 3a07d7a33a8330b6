-- What private functions answer: cited by private contracts alone.
use Rattle.std.specs.Prelude.{◌≡◌, ℕ, ⊤, List, [], ◌∷◌, ◌++◌, codes, Option, Some, None}
use Rattle.forms.specs.declared.form.Form.{Form}
use Rattle.forms.specs.declared.form.Form.TheVariants.{FileTime, IsoDateTime, IsoDate, IsoDuration, Toml, Fancy, PgIso, Postgres, PgVerbose}
use Rattle.forms.specs.declared.form.Form.TheVariants.{PgSql, IsoStrict, Unix, PgTimestamp, HttpDate, MailDate, XsdDuration}
use Rattle.forms.specs.Names.{name_of}
use Rattle.forms.specs.Buffers.{IsReplyLine}

-- what follows a word: nothing, or a space and the rest
abbrev pub behind : Option (List ℕ) → List ℕ
behind None = []
behind (Some rest) = codes " " ++ rest

-- the text begins with the form's name, and then ends or goes on behind a space
abbrev pub IsNamed : List ℕ → Form → Option (List ℕ) → Type 0
IsNamed text form rest = text ≡ name_of form ++ behind rest

-- a name of none of these forms is the first word
abbrev pub HasNoneOf : List Form → List ℕ → Type 0
HasNoneOf [] text = ⊤
HasNoneOf (form ∷ forms) text =
    ((rest : Option (List ℕ)) → IsNamed text form rest → ⊥) × HasNoneOf forms text

-- the forms by the first letter of their names: P, I, another
abbrev pub by_p : List Form
by_p = PgIso ∷ Postgres ∷ PgVerbose ∷ PgSql ∷ PgTimestamp ∷ []

abbrev pub by_i : List Form
by_i = IsoDateTime ∷ IsoDuration ∷ IsoDate ∷ IsoStrict ∷ []

abbrev pub by_another : List Form
by_another = FileTime ∷ Fancy ∷ Toml ∷ Unix ∷ HttpDate ∷ MailDate ∷ XsdDuration ∷ []

-- a text begins with this byte
abbrev pub Begins : ℕ → List ℕ → Type 0
Begins byte text = (rest : List ℕ) × (text ≡ byte ∷ rest)

-- the reply to a line was put behind what waits
pub record PushesReply (line before after : List ℕ) : Type 0 where
  pub whole : List ℕ
  pub reply : IsReplyLine whole line
  pub pushed : after ≡ before ++ whole
