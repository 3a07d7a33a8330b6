-- The laws of any form, from what its four words say of each other.
use Rattle.std.proofs.Common.{◌≡◌, ◌≢◌, ℕ, Bool, true, false, cond, List, Result, Ok, Err, IfOk, refl, sym, ◌∙◌, ap, subst, inl, inr}
use Rattle.std.specs.Str.{IsAscii}
use Rattle.arrayvec.specs.ArrayString.{ArrayString}
use Rattle.forms.specs.declared.cause.Cause.{Cause}
use Rattle.forms.specs.declared.cause.Cause.TheVariants.{Syntax}
use Rattle.forms.specs.declared.form.Form.{Form}
use Rattle.forms.specs.declared.value.Value.{Value}
use Rattle.forms.specs.Answers.{Is, result_map, ReadsBy, WritesBy, Then, bytes_of}
use Rattle.forms.specs.Forms.{Reads, Writes}
use Rattle.forms.specs.ReadBack.{Turns, IsReadBack}
use Rattle.forms.specs.Values.{IsWithinBounds, Same}
use Rattle.forms.specs.inside.Lawful.{Lawful}

-- ---- results

-- an Ok behind a test
pub then_ok : {X : Type 0} (test : Bool) (r : Result X Cause) (x : X) (cause : Cause) → cond test r (Err cause) ≡ Ok x → (test ≡ true)
    × (r ≡ Ok x)
then_ok true r x cause h = (refl, h)
then_ok false r x cause h = absurd (let e : Err cause ≡ Ok x = h in cc)

pub else_ok : {X : Type 0} (test : Bool) (r : Result X Cause) (x : X) (cause : Cause) → cond test (Err cause) r ≡ Ok x → (test ≡ false)
    × (r ≡ Ok x)
else_ok true r x cause h = absurd (let e : Err cause ≡ Ok x = h in cc)
else_ok false r x cause h = (refl, h)

pub same_ok : {X : Type 0} (x y : X) → (let left : Result X Cause = Ok x in left ≡ Ok y) → x ≡ y
same_ok x y h = cc

pub map_ok : {X Y : Type 0} (make : X → Y) (r : Result X Cause) (y : Y) → Ok y ≡ result_map make r → (x : X) × (r ≡ Ok x) × (make x ≡ y)
map_ok make (Ok x) y h = (x, refl, sym (same_ok y (make x) h))
map_ok make (Err cause) y h = absurd (let e : Ok y ≡ Err cause = h in cc)

-- what a function gives is one
pub one_image : {X Y : Type 0} (function : X → Y) (x : X) (a b : Y) → Is function x a → Is function x b → a ≡ b
one_image function x a b h k = h ∙ sym k

-- ---- reading

one_by : {X : Type 0} (Spells : List ℕ → X → Type 0) (Worth : X → Result Value Cause → Type 0)
    → ((text : List ℕ) (x y : X) → Spells text x → Spells text y → x ≡ y)
    → ((x : X) (a b : Result Value Cause) → Worth x a → Worth x b → a ≡ b)
    → (text : List ℕ) (a b : Result Value Cause) → ReadsBy Spells Worth text a → ReadsBy Spells Worth text b → a ≡ b
one_by {X} Spells Worth one one_worth text a b (inl h) (inl k) = let P : X → Type 0 = λ x. Worth x a in
    one_worth k.0 a b (subst P (one text h.0 k.0 h.1 k.1) h.2) k.2
one_by Spells Worth one one_worth text a b (inl h) (inr k) = absurd (k.0 h.0 h.1)
one_by Spells Worth one one_worth text a b (inr h) (inl k) = absurd (h.0 k.0 k.1)
one_by Spells Worth one one_worth text a b (inr h) (inr k) = h.1 ∙ sym k.1

-- what is spelled is ASCII
abbrev pub AreAscii : {X : Type 0} → (List ℕ → X → Type 0) → Type 0
AreAscii {X} Spells = (text : List ℕ) (x : X) → Spells text x → IsAscii text

ascii_by : {X : Type 0} (Spells : List ℕ → X → Type 0) (Worth : X → Result Value Cause → Type 0) → AreAscii Spells
    → (text : List ℕ) (a : Result Value Cause) → ReadsBy Spells Worth text a → a ≢ Err Syntax
    → IsAscii text
ascii_by Spells Worth ascii text a (inl h) other = ascii text h.0 h.1
ascii_by Spells Worth ascii text a (inr h) other = absurd (other h.1)

within_by : {X : Type 0} (Spells : List ℕ → X → Type 0) (Worth : X → Result Value Cause → Type 0)
    → ((text : List ℕ) (x : X) (value : Value) → Spells text x → Worth x (Ok value) → IsWithinBounds value)
    → (text : List ℕ) (value : Value) → ReadsBy Spells Worth text (Ok value)
    → IsWithinBounds value
within_by Spells Worth within text value (inl h) = within text h.0 value h.1 h.2
within_by Spells Worth within text value (inr h) = absurd (let e : Ok value ≡ Err Syntax = h.1 in cc)

-- ---- writing

-- a text that holds y of a value: it spells a meaning whose worth is the same value, and y is held of that too
pub record IsHeldBack {X Y : Type 0} (Spells : List ℕ → X → Type 0) (Worth : X → Result Value Cause → Type 0)
    (Holds : Value → Result Y Cause → Type 0) (text : List ℕ) (value : Value) (y : Y) : Type 0 where
  pub meaning : X
  pub back : Value
  pub spelled : Spells text meaning
  pub valued : Worth meaning (Ok back)
  pub same : Same value back
  pub again : Holds back (Ok y)

-- a form's rows of the tables are these words
pub record HasRows {X Y : Type 0} (form : Form) (Spells : List ℕ → X → Type 0) (Worth : X → Result Value Cause → Type 0)
    (Holds : Value → Result Y Cause → Type 0) (text_of : Y → List ℕ) : Type 0 where
  pub reads : (text : List ℕ) (a : Result Value Cause) → Reads form text a → ReadsBy Spells Worth text a
  pub read : (text : List ℕ) (a : Result Value Cause) → ReadsBy Spells Worth text a → Reads form text a
  pub writes : (value : Value) (a : Result (List ℕ) Cause) → Writes form value a → WritesBy Holds text_of value a
  pub written : (value : Value) (a : Result (List ℕ) Cause) → WritesBy Holds text_of value a → Writes form value a

-- what the words say of each other: each relation has one answer, what is spelled is ASCII, what is worth is within
-- the bounds, and what is held is held back
pub record AreLawful {X Y : Type 0} (Spells : List ℕ → X → Type 0) (Worth : X → Result Value Cause → Type 0)
    (Holds : Value → Result Y Cause → Type 0) (text_of : Y → List ℕ) : Type 0 where
  pub one : (text : List ℕ) (x y : X) → Spells text x → Spells text y → x ≡ y
  pub one_worth : (x : X) (a b : Result Value Cause) → Worth x a → Worth x b → a ≡ b
  pub one_held : (value : Value) (a b : Result Y Cause) → Holds value a → Holds value b → a ≡ b
  pub ascii : AreAscii Spells
  pub within : (text : List ℕ) (x : X) (value : Value) → Spells text x → Worth x (Ok value) → IsWithinBounds value
  pub back : (value : Value) (y : Y) → IsWithinBounds value → Holds value (Ok y) → IsHeldBack Spells Worth Holds (text_of y) value y

one_written_by : {Y : Type 0} (Holds : Value → Result Y Cause → Type 0) (text_of : Y → List ℕ)
    → ((value : Value) (a b : Result Y Cause) → Holds value a → Holds value b → a ≡ b) → (value : Value) (a b : Result (List ℕ) Cause)
    → WritesBy Holds text_of value a
    → WritesBy Holds text_of value b → a ≡ b
one_written_by Holds text_of one value a b h k = h.2 ∙ (ap (result_map text_of) (one value h.0 k.0 h.1 k.1) ∙ sym k.2)

back_by : {X Y : Type 0} (form : Form) (Spells : List ℕ → X → Type 0) (Worth : X → Result Value Cause → Type 0)
    (Holds : Value → Result Y Cause → Type 0) (text_of : Y → List ℕ) → HasRows form Spells Worth Holds text_of
    → AreLawful Spells Worth Holds text_of
    → (value : Value) (text : List ℕ) → IsWithinBounds value → Writes form value (Ok text) → IsReadBack form value text
back_by {X} {Y} form Spells Worth Holds text_of rows words value text within written =
    let w = rows.writes value (Ok text) written in
    let found = map_ok text_of w.0 text w.2 in
    let held : Holds value (Ok found.0) = subst (Holds value) found.1 w.1 in
    let b = words.back value found.0 within held in
    let P : List ℕ → Type 0 = λ l. Spells l b.meaning in
    record {
      back = b.back;
      read = rows.read text (Ok b.back) (inl (b.meaning, subst P found.2 b.spelled, b.valued));
      same = b.same;
      again = rows.written b.back (Ok text) (Ok found.0, b.again, ap Ok (sym found.2));
    }

-- a form is lawful where its words are
pub lawful_by : {X Y : Type 0} (form : Form) (Spells : List ℕ → X → Type 0) (Worth : X → Result Value Cause → Type 0)
    (Holds : Value → Result Y Cause → Type 0) (text_of : Y → List ℕ) → HasRows form Spells Worth Holds text_of
    → AreLawful Spells Worth Holds text_of
    → Lawful form
lawful_by form Spells Worth Holds text_of rows words = record {
  one = λ text a b h k. one_by Spells Worth words.one words.one_worth text a b (rows.reads text a h) (rows.reads text b k);
  one_written = λ value a b h k. one_written_by Holds text_of words.one_held value a b (rows.writes value a h) (rows.writes value b k);
  ascii = λ text a h other. ascii_by Spells Worth words.ascii text a (rows.reads text a h) other;
  within = λ text value h. within_by Spells Worth words.within text value (rows.reads text (Ok value) h);
  back = back_by form Spells Worth Holds text_of rows words;
}

-- ---- all pairs

-- what a form answers of a text is what its reader answers, and no other
pub exactly_read : (form : Form) → Lawful form → (text : List ℕ) (result : Result Value Cause) → Reads form text result
    → (answer : Result Value Cause) → (result ≡ answer → Reads form text answer) × (Reads form text answer → result ≡ answer)
exactly_read form lawful text result read answer = (λ e. subst (Reads form text) e read, λ other. lawful.one text result answer read other)

-- what a form answers of a value is what its writer answers, and no other
pub exactly_written : (form : Form) → Lawful form → (value : Value) (result : Result (List ℕ) Cause) → Writes form value result
    → (answer : Result (List ℕ) Cause) → (result ≡ answer → Writes form value answer) × (Writes form value answer → result ≡ answer)
exactly_written form lawful value result written answer = (
  λ e. subst (Writes form value) e written,
  λ other. lawful.one_written value result answer written other,
)

one_then : (to : Form) → Lawful to → (value : Result Value Cause) (a b : Result (List ℕ) Cause) → Then (Writes to) value a
    → Then (Writes to) value b → a ≡ b
one_then to lawful (Ok value) a b h k = lawful.one_written value a b h k
one_then to lawful (Err cause) a b h k = h ∙ sym k

pub one_turn : (from to : Form) → Lawful from → Lawful to → (text : List ℕ) (a b : Result (List ℕ) Cause) → Turns from to text a
    → Turns from to text b → a ≡ b
one_turn from to lf lt text a b h k = let P : Result Value Cause → Type 0 = λ v. Then (Writes to) v a in
    one_then to lt k.0 a b (subst P (lf.one text h.0 k.0 h.1 k.1) h.2) k.2

then_back : (from to : Form) → Lawful from → Lawful to → (text out : List ℕ) (value : Result Value Cause) → Reads from text value
    → Then (Writes to) value (Ok out) → (v : Value) × Reads from text (Ok v) × IsReadBack to v out
then_back from to lf lt text out (Ok value) read written = (value, read, lt.back value out (lf.within text value read) written)
then_back from to lf lt text out (Err cause) read written = absurd (let e : Ok out ≡ Err cause = written in cc)

-- an answer is read back
pub answer_back : (from to : Form) → Lawful from → Lawful to → (text out : List ℕ) → Turns from to text (Ok out) → (value : Value)
    × Reads from text (Ok value) × IsReadBack to value out
answer_back from to lf lt text out h = then_back from to lf lt text out h.0 h.1 h.2

-- a text's answer between two forms is this one, and no other
pub exactly_turned : (from to : Form) → Lawful from → Lawful to → (text : List ℕ) (result : Result (List ℕ) Cause)
    → Turns from to text result → (answer : Result (List ℕ) Cause) → (result ≡ answer → Turns from to text answer)
    × (Turns from to text answer → result ≡ answer)
exactly_turned from to lf lt text result turned answer = (
  λ e. subst (Turns from to text) e turned,
  λ other. one_turn from to lf lt text result answer turned other,
)

-- a text is written of what was read alone
pub only_read : (P : Type 0) (to : Form) (read : Result Value Cause) (written : Result ArrayString Cause)
    → Then (Writes to) read (bytes_of written) → IfOk read (λ _. P) → IfOk written (λ _. P)
only_read P to (Ok value) (Ok text) h p = p
only_read P to (Err cause) (Ok text) h p = absurd (let e : Ok text.bytes ≡ Err cause = h in cc)
only_read P to read (Err cause) h p = tt

-- what is said of Ok is said of a result
pub if_ok : {X : Type 0} (P : X → Type 0) (r : Result X Cause) → ((x : X) → r ≡ Ok x → P x) → IfOk r P
if_ok P (Ok x) h = h x refl
if_ok P (Err cause) h = tt
