-- Columns of texts: they stand side by side in some bytes, each from one offset to the next, as in the layout "variable-size binary" of
-- Apache Arrow's columnar format. The answers to them are a column too, beside which each cell has a code.
use Rattle.std.specs.Prelude.{◌≡◌, ◌⊎◌, ℕ, ◌+◌, ◌-◌, ◌<◌, ◌≤◌, min, ℤ, pos, List, [], ◌∷◌, ◌++◌, map, length, take, drop, Result, Ok, Err}
use Rattle.std.specs.Prelude.{IsUtf8, ⊤}
use Rattle.pg_interval_2.specs.declared.interval.Interval.{Interval}
use Rattle.pg_interval_2.specs.declared.style.Style.{Style}
use Rattle.forms.specs.Replies.{IsAnswer}
use Rattle.forms.specs.declared.cause.Cause.{Cause}
use Rattle.forms.specs.declared.form.Form.{Form}
use Rattle.forms.specs.form.Intervals.{FindsInterval}
use Rattle.timeforms_c.specs.Codes.{bad_offsets, code_of, not_utf8}

-- the text of a cell, from its offset to the next one, which is no lesser one and within the bytes
pub record IsCell (bytes : List ℕ) (start end : ℕ) (text : List ℕ) : Type 0 where
  pub rising : start ≤ end
  pub within : end ≤ length bytes
  pub same : text ≡ take (end - start) (drop start bytes)

-- there is no such text: the offsets fall or leave the bytes
abbrev pub HasNoCell : List ℕ → ℕ → ℕ → Type 0
HasNoCell bytes start end = (text : List ℕ) → IsCell bytes start end text → ⊥

-- what was found, or the code of the cause why nothing was
abbrev pub coded : {X : Type 0} → Result X Cause → Result X ℤ
coded (Ok found) = Ok found
coded (Err cause) = Err (code_of cause)

-- a text is answered by what is found of it, or by the code of the cause; one that isn't UTF-8 by a code of its own
abbrev pub IsCoded : {X : Type 0} → (List ℕ → Result X Cause → Type 0) → List ℕ → Result X ℤ → Type 0
IsCoded {X} Finds text answer =
    ((IsUtf8 text → ⊥) × (answer ≡ Err not_utf8))
    ⊎ (IsUtf8 text × ((found : Result X Cause) × Finds text found × (answer ≡ coded found)))

-- a cell is answered as its text is; one whose offsets fall or leave the bytes has no text, and a code of its own
abbrev pub IsCellAnswer : {X : Type 0} → (List ℕ → Result X Cause → Type 0) → List ℕ → ℕ → ℕ → Result X ℤ → Type 0
IsCellAnswer Finds bytes start end answer =
    (HasNoCell bytes start end × (answer ≡ Err bad_offsets))
    ⊎ ((text : List ℕ) × IsCell bytes start end text × IsCoded Finds text answer)

-- each of these stands for two neighbouring offsets, the first for the first two and so on; further offsets may follow
abbrev pub AreBetween : {A : Type 0} → (ℕ → ℕ → A → Type 0) → List ℕ → List A → Type 0
AreBetween IsOf offsets [] = ⊤
AreBetween IsOf offsets (one ∷ others) =
    (start : ℕ) × (end : ℕ) × (more : List ℕ) × (offsets ≡ start ∷ (end ∷ more)) × IsOf start end one
    × AreBetween IsOf (end ∷ more) others

-- the code of an answer, 0 where something was found
abbrev pub answer_code : {X : Type 0} → Result X ℤ → ℤ
answer_code (Ok found) = pos 0
answer_code (Err code) = code

-- the text of an answer, which is empty where there is a code in its place
abbrev pub answer_text : Result (List ℕ) ℤ → List ℕ
answer_text (Ok out) = out
answer_text (Err code) = []

-- texts side by side
abbrev pub joined : List (List ℕ) → List ℕ
joined [] = []
joined (text ∷ more) = text ++ joined more

-- where each of the texts ends that stand side by side from this place on
abbrev pub ends : ℕ → List (List ℕ) → List ℕ
ends start [] = []
ends start (text ∷ more) = (start + length text) ∷ ends (start + length text) more

-- these stand at the front of an array, and what is behind them is as it was
abbrev pub Fills : {A : Type 0} → List A → List A → List A → Type 0
Fills front old new = (length front ≤ length old) × (new ≡ front ++ drop (length front) old)

-- the next cell has an answer whose text is longer than the room that is left, of 2,147,483,647 at most
pub record IsBeyond (from to : Form) (bytes offsets : List ℕ) (room written : ℕ) : Type 0 where
  pub start : ℕ
  pub end : ℕ
  pub more : List ℕ
  pub next : offsets ≡ start ∷ (end ∷ more)
  pub answer : Result (List ℕ) ℤ
  pub answered : IsCellAnswer (IsAnswer from to) bytes start end answer
  pub longer : min room 2_147_483_647 < written + length (answer_text answer)

-- Cells at the front of a column are answered: their texts stand side by side at the front of the room, the places where these start and
-- end are the offsets, and each has its code. They are all cells, or an array has no place for a further one, or the room hasn't.
pub record AnswersColumn (from to : Form) (bytes offsets out_old out_new ends_old ends_new : List ℕ)
    (codes_old codes_new : List ℤ) (done : ℕ) : Type 0 where
  pub answers : List (Result (List ℕ) ℤ)
  pub each : AreBetween (IsCellAnswer (IsAnswer from to) bytes) offsets answers
  pub count : done ≡ length answers
  pub texts : Fills (joined (map answer_text answers)) out_old out_new
  pub places : Fills (0 ∷ ends 0 (map answer_text answers)) ends_old ends_new
  pub codes : Fills (map answer_code answers) codes_old codes_new
  pub bound : length (joined (map answer_text answers)) ≤ 2_147_483_647
  pub stops : (length offsets ≤ done + 1) ⊎ ((length ends_old ≤ done + 1) ⊎ ((length codes_old ≤ done)
      ⊎ IsBeyond from to bytes (drop done offsets) (length out_old) (length (joined (map answer_text answers)))))

-- a part of an interval that was found, and 0 where there is a code in its place
abbrev pub part_of : (Interval → ℤ) → Result Interval ℤ → ℤ
part_of part (Ok t) = part t
part_of part (Err code) = pos 0

-- Cells at the front of a column are read: the parts of their intervals stand at the front of three arrays, and each cell has its code.
-- They are all cells, or an array has no place for a further one.
pub record ReadsColumn (style : Style) (bytes offsets : List ℕ)
    (months_old months_new days_old days_new micros_old micros_new codes_old codes_new : List ℤ)
    (done : ℕ) : Type 0 where
  pub answers : List (Result Interval ℤ)
  pub each : AreBetween (IsCellAnswer (FindsInterval style) bytes) offsets answers
  pub count : done ≡ length answers
  pub months : Fills (map (part_of (λ t. t.months)) answers) months_old months_new
  pub days : Fills (map (part_of (λ t. t.days)) answers) days_old days_new
  pub micros : Fills (map (part_of (λ t. t.microseconds)) answers) micros_old micros_new
  pub codes : Fills (map answer_code answers) codes_old codes_new
  pub stops : (length offsets ≤ done + 1) ⊎ ((length months_old ≤ done) ⊎ ((length days_old ≤ done)
      ⊎ ((length micros_old ≤ done) ⊎ (length codes_old ≤ done))))
