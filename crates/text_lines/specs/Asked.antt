-- What the words of a command line ask for: two names of forms, and then nothing, a place of lines, or a text.
use Rattle.std.specs.Prelude.{◌≡◌, ◌⊎◌, ℕ, ◌+◌, ◌^◌, ◌<◌, List, ◌∷◌, ◌++◌, codes, decimal}
use Rattle.forms.specs.declared.form.Form.{Form}
use Rattle.forms.specs.Names.{name_of}
use Rattle.text_lines.specs.declared.place.Place.{Place}
use Rattle.text_lines.specs.declared.place.Place.TheVariants.{Whole, Field, Word}

-- two names of forms
abbrev pub names : Form → Form → List ℕ
names from to = name_of from ++ (codes " " ++ name_of to)

-- the words ask for the lines of the input, with a text at a place: behind the names stands nothing, or `field` or `word` and a number
-- of 64 bits from 1 on in decimal
abbrev pub AskLines : List ℕ → Form → Form → Place → Type 0
AskLines words from to Whole = words ≡ names from to
AskLines words from to (Field n) =
    (n + 1 < 2 ^ 64) × (words ≡ names from to ++ (codes " field " ++ decimal (n + 1)))
AskLines words from to (Word n) =
    (n + 1 < 2 ^ 64) × (words ≡ names from to ++ (codes " word " ++ decimal (n + 1)))

-- the text is `field` or `word`, or begins with one of them and a space
abbrev pub BeginsPlace : List ℕ → Type 0
BeginsPlace text =
    ((text ≡ codes "field") ⊎ ((rest : List ℕ) × (text ≡ codes "field " ++ rest)))
    ⊎ ((text ≡ codes "word") ⊎ ((rest : List ℕ) × (text ≡ codes "word " ++ rest)))

-- the words ask for one text, which stands behind the names and doesn't begin so
abbrev pub AskText : List ℕ → Form → Form → List ℕ → Type 0
AskText words from to text =
    (words ≡ names from to ++ (codes " " ++ text)) × (BeginsPlace text → ⊥)

-- the words ask for neither
abbrev pub AskNothing : List ℕ → Type 0
AskNothing words =
    ((from to : Form) (place : Place) → AskLines words from to place → ⊥)
    × ((from to : Form) (text : List ℕ) → AskText words from to text → ⊥)

-- the words begin with a letter that is no small one
abbrev pub BeginsCapital : List ℕ → Type 0
BeginsCapital words = (byte : ℕ) × (rest : List ℕ) × (words ≡ byte ∷ rest) × (byte < 97)
