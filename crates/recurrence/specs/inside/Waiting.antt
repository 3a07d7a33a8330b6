-- Texts of a kind that are put behind what waits for a sink: cited by private contracts alone.
use Rattle.std.specs.Prelude.{◌≡◌, ℕ, List, ◌++◌, Option}
use Rattle.std.specs.Io.KnownBytes.{Appends}
use Rattle.forms.specs.Outside.{AppendsFront}
use Rattle.forms.specs.Waiting.{Moves}

-- texts that wait are written in order
pub record KeepOrder : Type 0 where
  pub next : (a b c : Option (List ℕ)) (before first between second after : List ℕ)
      → Moves a b before first between → Moves b c between second after
      → Moves a c before (first ++ second) after
  pub next_fails : (a b c : Option (List ℕ)) (before first between second : List ℕ)
      → Moves a b before first between → AppendsFront b c (between ++ second)
      → AppendsFront a c (before ++ (first ++ second))
  pub flushed : (a b c : Option (List ℕ)) (before text after : List ℕ)
      → Moves a b before text after → Appends b c after → Appends a c (before ++ text)
  pub flush_fails : (a b c : Option (List ℕ)) (before text after : List ℕ)
      → Moves a b before text after → AppendsFront b c after → AppendsFront a c (before ++ text)

-- a text of this kind was put behind another
abbrev pub Gains : (List ℕ → Type 0) → List ℕ → List ℕ → Type 0
Gains IsText before after = (text : List ℕ) × IsText text × (after ≡ before ++ text)

-- a text of this kind was put behind what waits
abbrev pub Puts : (List ℕ → Type 0) → Option (List ℕ) → Option (List ℕ) → List ℕ → List ℕ
    → Type 0
Puts IsText old new before after = (text : List ℕ) × IsText text × Moves old new before text after

-- the sink gained a front of what waits and of such a text behind it
abbrev pub Fails : (List ℕ → Type 0) → Option (List ℕ) → Option (List ℕ) → List ℕ → Type 0
Fails IsText old new before = (text : List ℕ) × IsText text × AppendsFront old new (before ++ text)
