-- How a form reads and writes, for any form. A form is four definitions: what a text spells, what that is worth as a value, what of a
-- value the form holds, and the text of what is held.
use Rattle.std.specs.Prelude.{◌≡◌, ◌⊎◌, ℕ, List, Result, Ok, Err}
use Rattle.arrayvec.specs.ArrayString.{ArrayString}
use Rattle.forms.specs.declared.cause.Cause.{Cause}
use Rattle.forms.specs.declared.cause.Cause.TheVariants.{Syntax, NoSuchMoment, Range}
use Rattle.forms.specs.declared.value.Value.{Value}

-- a function as a relation: the second is what the function gives for the first
abbrev pub Is : {X Y : Type 0} → (X → Y) → X → Y → Type 0
Is function x y = y ≡ function x

-- the text spells something, and the answer is what that is worth; or it spells nothing, and the answer is `Syntax`
abbrev pub ReadsBy : {X : Type 0} → (List ℕ → X → Type 0) → (X → Result Value Cause → Type 0)
    → List ℕ → Result Value Cause
    → Type 0
ReadsBy {X} Spells Worth text answer =
    ((x : X) × Spells text x × Worth x answer)
    ⊎ (((x : X) → Spells text x → ⊥) × (answer ≡ Err Syntax))

-- what is real and in range has this value; what isn't real is `NoSuchMoment`, and what is real and out of range is `Range`
abbrev pub Judged : Type 0 → Type 0 → Value → Result Value Cause → Type 0
Judged Real InRange value answer =
    (Real × InRange × (answer ≡ Ok value))
    ⊎ (((Real → ⊥) × (answer ≡ Err NoSuchMoment)) ⊎ (Real × (InRange → ⊥) × (answer ≡ Err Range)))

-- the function applied to what a result holds; a cause stays as it is
abbrev pub result_map : {X Y : Type 0} → (X → Y) → Result X Cause → Result Y Cause
result_map make (Ok x) = Ok (make x)
result_map make (Err cause) = Err cause

-- the answer is the text of what is held of the value, or the cause why nothing is
abbrev pub WritesBy : {X : Type 0} → (Value → Result X Cause → Type 0) → (X → List ℕ) → Value
    → Result (List ℕ) Cause → Type 0
WritesBy {X} Holds text_of value answer =
    (held : Result X Cause) × Holds value held × (answer ≡ result_map text_of held)

-- the next step answers for what a result holds; a cause is handed on as it is
abbrev pub Then : {X Y : Type 0} → (X → Result Y Cause → Type 0) → Result X Cause
    → Result Y Cause → Type 0
Then Next (Ok x) answer = Next x answer
Then Next (Err cause) answer = answer ≡ Err cause

-- the bytes of a short text, where there is one
abbrev pub bytes_of : Result ArrayString Cause → Result (List ℕ) Cause
bytes_of text = result_map (λ t. t.bytes) text
