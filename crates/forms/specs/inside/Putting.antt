-- What is put onto a text in any case: cited by private contracts alone.
use Rattle.std.specs.Prelude.{◌≡◌, ℕ, List, ◌++◌}

-- some text of this kind was put behind what stood there
pub record Gains (IsText : List ℕ → Type 0) (before after : List ℕ) : Type 0 where
  pub text : List ℕ
  pub is : IsText text
  pub gained : after ≡ before ++ text
