-- What waits for a sink: texts that are put one behind another, and are written many at once.
use Rattle.std.specs.Prelude.{◌≡◌, ℕ, List, ◌++◌, Option}
use Rattle.std.specs.Io.KnownBytes.{Appends}

-- a text was put behind what waits; the sink gained a front of both, and the rest waits
pub record Moves (old new : Option (List ℕ)) (before text after : List ℕ) : Type 0 where
  pub front : List ℕ
  pub split : before ++ text ≡ front ++ after
  pub gained : Appends old new front
