-- What is held of a value in whole microseconds: cited by private contracts alone.
use Rattle.std.specs.Prelude.{List, ℕ, Result, Ok, Err}
use Rattle.pg_timestamp.specs.Values.{IsWithinBounds}
use Rattle.pg_timestamp.specs.Written.{IsValueText}
use Rattle.pg_timestamp.specs.declared.value.Value.{Value as TimestampValue}
use Rattle.forms.specs.declared.cause.Cause.{Cause}

-- a value within the bounds whose text is held, or the cause why there is none
abbrev pub FindsMicros : (Result (List ℕ) Cause → Type 0) → Result TimestampValue Cause → Type 0
FindsMicros Holds (Ok value) =
    IsWithinBounds value × ((text : List ℕ) → IsValueText value text → Holds (Ok text))
FindsMicros Holds (Err cause) = Holds (Err cause)
