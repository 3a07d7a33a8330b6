-- Fields of a line, which have a TAB between.
use Rattle.std.specs.Prelude.{◌≡◌, ◌⊎◌, ℕ, zero, suc, List, [], ◌∷◌, ◌++◌}
use Rattle.whole_input.specs.Parts.{HasNo, IsSplitAt}

-- so many fields in a row, each with the TAB behind it
abbrev pub AreTabbed : ℕ → List ℕ → Type 0
AreTabbed zero bytes = bytes ≡ []
AreTabbed (suc n) bytes =
    (field : List ℕ) × (rest : List ℕ) × IsSplitAt 9 bytes field rest × AreTabbed n rest

-- nothing, or a TAB and what follows
abbrev pub IsTabEnd : List ℕ → Type 0
IsTabEnd after = (after ≡ []) ⊎ ((more : List ℕ) × (after ≡ 9 ∷ more))

-- a line is so many fields, the field behind them, and what follows it
pub record IsField (n : ℕ) (line before text after : List ℕ) : Type 0 where
  pub skipped : AreTabbed n before
  pub alone : HasNo 9 text
  pub behind : IsTabEnd after
  pub joined : line ≡ before ++ (text ++ after)
