-- Lines that come in pieces: what was answered of them, and the part of a line that is kept. Cited by private contracts alone.
use Rattle.std.specs.Prelude.{◌≡◌, ◌==◌, ◌<◌, ℕ, false, List, [], ◌∷◌, ◌++◌, take, codes, Option}
use Rattle.scan_core.specs.Join.{IsJoin}
use Rattle.forms.specs.Lines.{lines, whole_lines}
use Rattle.forms.specs.Outputs.{cut, GainsOutputs, GainsOutputsFront}

-- no byte is a line feed
abbrev pub NoFeed : List ℕ → Type 0
NoFeed [] = Unit {0}
NoFeed (byte ∷ bytes) = ((byte == 10) ≡ false) × NoFeed bytes

-- a line with the line feed that ends it
abbrev pub IsEnded : List ℕ → List ℕ → Type 0
IsEnded piece line = NoFeed line × (piece ≡ line ++ codes "\n")

-- the bytes are whole lines in a row
abbrev pub AreWhole : List (List ℕ) → List ℕ → Type 0
AreWhole lines bytes = IsJoin IsEnded bytes lines

-- of the bytes the whole lines were answered, and what follows them is a part of a line
pub record Answers {A : Type 0} (Says : A → List ℕ → List ℕ → A → Type 0) (s t : A) (bytes part : List ℕ)
    (old new : Option (List ℕ)) : Type 0 where
  pub answered : List (List ℕ)
  pub front : List ℕ
  pub whole : AreWhole answered front
  pub split : bytes ≡ front ++ part
  pub left : NoFeed part
  pub gained : GainsOutputs Says s answered t old new

-- whatever part of a line was kept in front of a piece: its whole lines were answered, and what follows them is kept
abbrev pub AnswersPiece : {A : Type 0} → (A → List ℕ → List ℕ → A → Type 0) → ℕ → A → A → List ℕ → List ℕ → List ℕ
    → Option (List ℕ) → Option (List ℕ) → Type 0
AnswersPiece Says most s t kept piece after old new =
    (part : List ℕ) → NoFeed part → kept ≡ take most part
    → (rest : List ℕ) × (after ≡ take most rest) × Answers (cut most Says) s t (part ++ piece) rest old new

-- whatever part of a line was kept in front of a piece: a front of the outputs for its whole lines was written
abbrev pub FailsPiece : {A : Type 0} → (A → List ℕ → List ℕ → A → Type 0) → ℕ → A → List ℕ → List ℕ
    → Option (List ℕ) → Option (List ℕ) → Type 0
FailsPiece Says most s kept piece old new =
    (part : List ℕ) → NoFeed part → kept ≡ take most part
    → GainsOutputsFront (cut most Says) s (whole_lines (part ++ piece)) old new

-- whatever last part of a line was kept: it was answered, where it isn't empty
abbrev pub AnswersLast : {A : Type 0} → (A → List ℕ → List ℕ → A → Type 0) → A → A → List ℕ
    → Option (List ℕ) → Option (List ℕ) → Type 0
AnswersLast Says s t kept old new =
    (most : ℕ) (part : List ℕ) → 0 < most → NoFeed part → kept ≡ take most part
    → GainsOutputs (cut most Says) s (lines part) t old new

abbrev pub FailsLast : {A : Type 0} → (A → List ℕ → List ℕ → A → Type 0) → A → List ℕ
    → Option (List ℕ) → Option (List ℕ) → Type 0
FailsLast Says s kept old new =
    (most : ℕ) (part : List ℕ) → 0 < most → NoFeed part → kept ≡ take most part
    → GainsOutputsFront (cut most Says) s (lines part) old new
