-- What a writer onto a text does: it appends the text that it answers, or nothing where it refuses.
use Rattle.std.specs.Prelude.{◌≡◌, ℕ, ⊤, List, ◌++◌, Result, Ok, Err}
use Rattle.forms.specs.declared.cause.Cause.{Cause}

-- this answer was put behind what stood there: its text, or nothing where it is a cause, which is then the result
abbrev pub IsPut : Result (List ℕ) Cause → List ℕ → List ℕ → Result ⊤ Cause → Type 0
IsPut (Ok text) before after result = (result ≡ Ok tt) × (after ≡ before ++ text)
IsPut (Err cause) before after result = (result ≡ Err cause) × (after ≡ before)

-- some answer of this kind was put behind what stood there: its text, or nothing where it is a cause
pub record Puts (IsAnswer : Result (List ℕ) Cause → Type 0) (before after : List ℕ)
    (result : Result ⊤ Cause) : Type 0 where
  pub answer : Result (List ℕ) Cause
  pub is : IsAnswer answer
  pub put : IsPut answer before after result
