-- What a call leaves in the room that the caller gave, and the number that it answers.
use Rattle.std.specs.Prelude.{◌≡◌, ◌⊎◌, ℕ, ◌<◌, ◌≤◌, ℤ, pos, List, ◌++◌, length, drop, Result, Ok, Err}
use Rattle.forms.specs.declared.cause.Cause.{Cause}
use Rattle.timeforms_c.specs.Codes.{code_of, no_room}

-- the call answered this code, and the room is as it was
abbrev pub Refused : ℤ → List ℕ → List ℕ → ℤ → Type 0
Refused code old new result = (result ≡ code) × (new ≡ old)

-- the text stands at the front of the room, what stood behind it is as it was, and its length was answered; or it is longer than the room
abbrev pub Leaves : List ℕ → List ℕ → List ℕ → ℤ → Type 0
Leaves text old new result =
    ((length text ≤ length old) × (result ≡ pos (length text))
    × (new ≡ text ++ drop (length text) old))
    ⊎ ((length old < length text) × Refused no_room old new result)

-- the same of a text, or of the cause why there is none
abbrev pub Answers : Result (List ℕ) Cause → List ℕ → List ℕ → ℤ → Type 0
Answers (Ok text) = Leaves text
Answers (Err cause) = Refused (code_of cause)
