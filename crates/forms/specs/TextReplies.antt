-- The reply to a text by its bytes, which may be no UTF-8.
use Rattle.std.specs.Prelude.{◌≡◌, ◌⊎◌, ℕ, Bool, true, List, codes, Result, IsUtf8}
use Rattle.forms.specs.declared.form.Form.{Form}
use Rattle.forms.specs.declared.cause.Cause.{Cause}
use Rattle.forms.specs.Replies.{IsAnswer, answer_text, is_refusal}

-- the reply to a text, and whether it is a refusal: the text isn't UTF-8, or this is the answer to it
abbrev pub IsTextReply : Form → Form → List ℕ → List ℕ → Bool → Type 0
IsTextReply from to text out refused =
    ((IsUtf8 text → ⊥) × (out ≡ codes "refused Line") × (refused ≡ true))
    ⊎ ((answer : Result (List ℕ) Cause) × IsUtf8 text × IsAnswer from to text answer
    × (out ≡ answer_text answer)
    × (refused ≡ is_refusal answer))
