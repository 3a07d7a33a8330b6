-- Words that are put behind other words, for the contracts of the writers of words.
use Rattle.std.specs.Prelude.{ℕ, Bool, true, false, List, [], ◌∷◌, ◌++◌, codes, if◌then◌else◌}
use Rattle.std.specs.List.{join_with_byte}

-- whether there are words
abbrev pub has_words : List (List ℕ) → Bool
has_words [] = false
has_words (word ∷ words) = true

-- the space behind other words, where there are some
abbrev pub space_behind : Bool → List ℕ
space_behind others = if others then codes " " else []

-- words with one space between, and one before them where other words stand there
abbrev pub words_behind : Bool → List (List ℕ) → List ℕ
words_behind others [] = []
words_behind others (word ∷ words) = space_behind others ++ join_with_byte 32 (word ∷ words)
