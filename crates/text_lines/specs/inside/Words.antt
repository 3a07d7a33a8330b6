-- Words of a command line by their parts, as they are read: cited by private contracts alone.
use Rattle.std.specs.Prelude.{◌≡◌, ◌⊎◌, ℕ, ◌+◌, ◌^◌, ◌<◌, List, [], ◌∷◌, ◌++◌, codes, decimal, Option, Some, None}
use Rattle.forms.specs.declared.form.Form.{Form}
use Rattle.forms.specs.Names.{name_of}
use Rattle.text_lines.specs.declared.place.Place.{Place}
use Rattle.text_lines.specs.declared.place.Place.TheVariants.{Whole, Field, Word}

-- what follows a word: nothing, or a space and the rest
abbrev pub behind : Option (List ℕ) → List ℕ
behind None = []
behind (Some rest) = 32 ∷ rest

-- the text begins with the form's name, and then ends or goes on behind a space
abbrev pub IsForm : List ℕ → Form → Option (List ℕ) → Type 0
IsForm text form rest = text ≡ name_of form ++ behind rest

-- so it is for two names
abbrev pub AreForms : List ℕ → Form → Form → Option (List ℕ) → Type 0
AreForms words from to rest = IsForm words from (Some (name_of to ++ behind rest))

-- the text is a word, or begins with it and a space
abbrev pub BeginsWord : List ℕ → List ℕ → Type 0
BeginsWord text word = (text ≡ word) ⊎ ((rest : List ℕ) × (text ≡ word ++ 32 ∷ rest))

-- the text names a place that is a part of a line
abbrev pub IsPlaceText : List ℕ → Place → Type 0
IsPlaceText text Whole = ⊥
IsPlaceText text (Field n) = (n + 1 < 2 ^ 64) × (text ≡ codes "field " ++ decimal (n + 1))
IsPlaceText text (Word n) = (n + 1 < 2 ^ 64) × (text ≡ codes "word " ++ decimal (n + 1))
