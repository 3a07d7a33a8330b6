-- The cells of a column one by one: cited by private contracts alone.
use Rattle.std.specs.Prelude.{◌≡◌, ℕ, ◌+◌, ◌≤◌, ℤ, List, ◌++◌, length, take, drop, Result, Ok, Err}
use Rattle.arrayvec.specs.ArrayString.{ArrayString}
use Rattle.timeforms_c.specs.Columns.{answer_code, answer_text}

-- the bytes of a short text, or the code in its place
abbrev pub shown : Result ArrayString ℤ → Result (List ℕ) ℤ
shown (Ok text) = Ok text.bytes
shown (Err code) = Err code

-- the text of an answer was put at a place of so much room, and this is its length, and that the answer's code
pub record PutsAnswer (answer : Result (List ℕ) ℤ) (at room : ℕ) (old new : List ℕ) (len : ℕ) (code : ℤ) : Type 0 where
  pub count : len ≡ length (answer_text answer)
  pub coded : code ≡ answer_code answer
  pub within : at + length (answer_text answer) ≤ room
  pub put : new ≡ take at old ++ (answer_text answer ++ drop (at + length (answer_text answer)) old)
