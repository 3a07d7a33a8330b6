-- Blanks, which are the six white-space bytes of the C locale's `isspace`, and the words between them.
use Rattle.std.specs.Prelude.{◌≡◌, ◌⊎◌, ℕ, Bool, ◌||◌, ◌&&◌, ◌==◌, nat_le, IsTrue, List, [], ◌∷◌, ◌++◌, if◌then◌else◌}
use Rattle.std.specs.List.{onto_first}

-- a tab, a line feed, a vertical tab, a form feed, a carriage return or a space
abbrev pub is_blank : ℕ → Bool
is_blank b = (nat_le 9 b && nat_le b 13) || (b == 32)

-- the words of a text: its maximal runs of bytes that aren't blank, in order
abbrev pub words : List ℕ → List (List ℕ)
words [] = []
words (b ∷ []) = if is_blank b then [] else ((b ∷ []) ∷ [])
words (b ∷ c ∷ bs) =
    if is_blank b then words (c ∷ bs)
    else if is_blank c then ((b ∷ []) ∷ words (c ∷ bs))
    else onto_first b (words (c ∷ bs))

-- a word ends here: with the text, or before a blank
abbrev pub EndsWord : List ℕ → Type 0
EndsWord [] = Unit {0}
EndsWord (b ∷ bs) = IsTrue (is_blank b)

-- nothing, or something with a blank at its end: the next word begins behind it
abbrev pub EndsInBlank : List ℕ → Type 0
EndsInBlank text =
    (text ≡ []) ⊎ ((front : List ℕ) × (b : ℕ) × IsTrue (is_blank b) × (text ≡ front ++ b ∷ []))
