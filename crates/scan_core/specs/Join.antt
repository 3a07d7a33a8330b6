-- A list that is pieces in a row, each of which stands for a value: letters that spell counts, words that are items.
use Rattle.std.specs.Prelude.{◌≡◌, List, [], ◌∷◌, ◌++◌}

-- the whole is a join of pieces, one for each value, in order
abbrev pub IsJoin : {A C : Type 0} → (List A → C → Type 0) → List A → List C → Type 0
IsJoin IsPiece whole [] = whole ≡ []
IsJoin {A} IsPiece whole (c ∷ cs) =
    (piece : List A) × (rest : List A) × IsPiece piece c × IsJoin IsPiece rest cs
    × (whole ≡ piece ++ rest)
