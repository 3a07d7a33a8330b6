-- The minus at the front of a text, and what follows it.
use Rattle.std.specs.Prelude.{ℕ, ◌==◌, Bool, false, List, [], ◌∷◌, if◌then◌else◌}

-- whether a minus stands in front
abbrev pub minus_of : List ℕ → Bool
minus_of [] = false
minus_of (b ∷ bs) = b == 45

-- what follows a minus in front, or the whole text
abbrev pub behind_minus : List ℕ → List ℕ
behind_minus [] = []
behind_minus (b ∷ bs) = if b == 45 then bs else (b ∷ bs)
