-- Pieces of PostgreSQL's timestamps: a mark and two digits, and the era behind all.
use Rattle.std.specs.Prelude.{◌≡◌, ℕ, Bool, true, false, List, [], ◌∷◌, codes}
use Rattle.scan_core.specs.Fields.{IsField}

-- the mark and two digits, which write a number from lo to hi
abbrev pub IsMarkedPair : ℕ → ℕ → ℕ → List ℕ → ℕ → Type 0
IsMarkedPair mark lo hi piece n =
    (pair : List ℕ) × IsField 2 lo hi pair n × (piece ≡ mark ∷ pair)

-- a blank and `BC` where the year is before Christ, and else nothing
abbrev pub era_text : Bool → List ℕ
era_text true = codes " BC"
era_text false = []
