-- Replies to texts between two interval forms. A text with a shape is ASCII.
use Rattle.std.proofs.Common.{◌≡◌, ◌≢◌, ◌⊎◌, ℕ, true, false, List, ◌++◌, codes, Some, Result, Ok, Err}
use Rattle.std.proofs.Common.{refl, ◌∙◌, ap, inl, inr}
use Rattle.std.specs.Prelude.{IsTrue, IsUtf8}
use Rattle.std.specs.List.{list_all}
use Rattle.std.specs.Str.{IsAscii}
use Rattle.std.proofs.lemmas.Str.{IsUtf8-from_ascii}
use Rattle.scan_core.specs.Count.{Count}
use Rattle.pg_interval_2.specs.Alphabet.{is_in_alphabet}
use Rattle.pg_interval_2.specs.Denotes.{Denotes}
use Rattle.pg_interval_2.specs.Styles.{Shape, style_text}
use Rattle.pg_interval_2.specs.declared.interval.Interval.{Interval}
use Rattle.pg_interval_2.specs.declared.style.Style.{Style}
use Rattle.forms.specs.declared.cause.Cause.{Cause}
use Rattle.forms.specs.declared.cause.Cause.TheVariants.{Syntax, Range}
use Rattle.forms.specs.declared.form.Form.{Form}
use Rattle.forms.specs.declared.value.Value.{Value}
use Rattle.forms.specs.Answers.{Then}
use Rattle.forms.specs.Forms.{Reads, Writes}
use Rattle.forms.specs.ReadBack.{Turns}
use Rattle.forms.specs.Names.{cause_name, style_of}
use Rattle.forms.specs.Replies.{IsAnswer, IsIntervalAnswer}
use Rattle.forms.specs.TextReplies.{IsTextReply}
use Rattle.forms.specs.form.Intervals.{FindsInterval}
use Rattle.forms.proofs.AsciiNames.{ascii}
use Rattle.forms.proofs.Intervals.{not_fitting}
use Rattle.forms.proofs.Lawful.{AreAscii}
use Rattle.forms.proofs.SampleReplies.{all_small}

-- what the law of the crate below says of texts with a shape
abbrev pub AreOfAlphabet : Type 0
AreOfAlphabet = (s : Style) (text : List ℕ) (counts : List Count) → Shape s text counts → IsTrue (list_all is_in_alphabet text)

pub spelled_ascii : AreOfAlphabet → (s : Style) → AreAscii (Shape s)
spelled_ascii alphabet s text counts h = ascii text (all_small text (alphabet s text counts h))

spelled_utf8 : AreOfAlphabet → (s : Style) (text : List ℕ) (counts : List Count) → Shape s text counts → IsUtf8 text
spelled_utf8 alphabet s text counts h = IsUtf8-from_ascii text (spelled_ascii alphabet s text counts h)

-- a text that is refused for another cause than its shape
pub refused_utf8 : AreOfAlphabet → (s : Style) (text : List ℕ) (cause : Cause) → FindsInterval s text (Err cause) → cause ≢ Syntax
    → IsUtf8 text
refused_utf8 alphabet s text Syntax h other = absurd (other refl)
refused_utf8 alphabet s text Range h other = spelled_utf8 alphabet s text h.1.0 h.1.1
refused_utf8 alphabet s text _ h other = absurd h

answers : (s u : Style) (f t : Form) (text : List ℕ) (answer : Result (List ℕ) Cause)
    → style_of f ≡ Some s → style_of t ≡ Some u → IsIntervalAnswer s u text answer → IsAnswer f t text answer
unfolding IsAnswer
answers s u f t text answer from to h = inl (s, u, from, to, h)

no_answer : (s u : Style) (text : List ℕ) (cause : Cause) → FindsInterval s text (Err cause) → IsIntervalAnswer s u text (Err cause)
no_answer s u text Syntax h = h
no_answer s u text Range h = (h.1.0, h.1.1, not_fitting h.1.0 h.0 h.1.2)
no_answer s u text _ h = absurd h

-- the text of the interval that a text denotes is its reply
pub interval_reply : AreOfAlphabet → (s u : Style) (text : List ℕ) (i : Interval) → Denotes (Shape s) text i
    → (f t : Form) → style_of f ≡ Some s → style_of t ≡ Some u
    → IsTextReply f t text (style_text u i) false
interval_reply alphabet s u text i h f t from to =
    inr (
      Ok (style_text u i),
      spelled_utf8 alphabet s text h.0 h.1,
      answers s u f t text (Ok (style_text u i)) from to (i, h, refl),
      refl,
      refl,
    )

-- the word behind `refused` where a text denotes no interval
abbrev pub IsWord : List ℕ → Cause → List ℕ → Type 0
IsWord text cause word = ((IsUtf8 text → ⊥) × (word ≡ codes "Line")) ⊎ (IsUtf8 text × (word ≡ cause_name cause))

-- a refused answer in its reply
pub refused_reply : (f t : Form) (text : List ℕ) (cause : Cause) (word : List ℕ) → IsAnswer f t text (Err cause)
    → IsWord text cause word
    → IsTextReply f t text (codes "refused " ++ word) true
refused_reply f t text cause word answer (inl bad) = inl (bad.0, ap (λ (l : List ℕ). codes "refused " ++ l) bad.1, refl)
refused_reply f t text cause word answer (inr well) =
    inr (Err cause, well.0, answer, ap (λ (l : List ℕ). codes "refused " ++ l) well.1, refl)

pub no_interval_reply : (s u : Style) (text : List ℕ) (cause : Cause) (word : List ℕ) → FindsInterval s text (Err cause)
    → IsWord text cause word
    → (f t : Form) → style_of f ≡ Some s → style_of t ≡ Some u
    → IsTextReply f t text (codes "refused " ++ word) true
no_interval_reply s u text cause word h is f t from to =
    refused_reply f t text cause word (answers s u f t text (Err cause) from to (no_answer s u text cause h)) is

-- ---- by the value that a text stands for

-- what the law says of texts with a form's shape
abbrev pub AreAsciiShapes : Type 0
AreAsciiShapes = (form : Form) (text : List ℕ) (answer : Result Value Cause) → Reads form text answer → answer ≢ Err Syntax
    → IsAscii text

no_cause : {X : Type 0} (x : X) (cause : Cause) → (let ok : Result X Cause = Ok x in ok ≢ Err cause)
no_cause x cause h = cc

pub same_cause : {X : Type 0} (a b : Cause) → (let one : Result X Cause = Err a in one ≡ Err b) → a ≡ b
same_cause a b h = cc

read_utf8 : AreAsciiShapes → (from to : Form) (text : List ℕ) (read : Result Value Cause) (answer : Result (List ℕ) Cause)
    → Reads from text read → Then (Writes to) read answer → answer ≢ Err Syntax
    → IsUtf8 text
read_utf8 ascii from to text (Ok value) answer read written other =
    IsUtf8-from_ascii text (ascii from text (Ok value) read (no_cause value Syntax))
read_utf8 ascii from to text (Err cause) answer read written other =
    IsUtf8-from_ascii text (ascii from text (Err cause) read (λ e. other (written ∙ ap Err (same_cause cause Syntax e))))

-- a text that another cause than `Syntax` refuses, and one that has an answer
pub turned_utf8 : AreAsciiShapes → (from to : Form) (text : List ℕ) (answer : Result (List ℕ) Cause) → Turns from to text answer
    → answer ≢ Err Syntax
    → IsUtf8 text
turned_utf8 ascii from to text answer h other = read_utf8 ascii from to text h.0 answer h.1 h.2 other

-- the text that is written of what was read
pub turned_reply : AreAsciiShapes → (from to : Form) (text out : List ℕ) → Turns from to text (Ok out) → IsAnswer from to text (Ok out)
    → IsTextReply from to text out false
turned_reply ascii from to text out h answer =
    inr (Ok out, turned_utf8 ascii from to text (Ok out) h (no_cause out Syntax), answer, refl, refl)
