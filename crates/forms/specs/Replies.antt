-- Requests and replies. A line is a request where it is a form's name, a space, a form's name, then the end or a space and a text.
-- Its reply is what the text is in the second form, or `refused` and the cause.
use Rattle.std.specs.Prelude.{◌≡◌, ◌⊎◌, ℕ, Bool, true, false, List, [], ◌++◌, codes, Some, None, Result, Ok, Err, IsUtf8}
use Rattle.scan_core.specs.Join.{IsJoin}
use Rattle.scan_core.specs.Count.{Count}
use Rattle.scan_core.specs.Sums.{fits}
use Rattle.pg_interval_2.specs.declared.interval.Interval.{Interval}
use Rattle.pg_interval_2.specs.declared.style.Style.{Style}
use Rattle.pg_interval_2.specs.Denotes.{Denotes}
use Rattle.pg_interval_2.specs.Styles.{Shape, style_text}
use Rattle.forms.specs.declared.form.Form.{Form}
use Rattle.forms.specs.declared.cause.Cause.{Cause}
use Rattle.forms.specs.declared.cause.Cause.TheVariants.{Syntax, Range}
use Rattle.forms.specs.Names.{name_of, style_of, cause_name}
use Rattle.forms.specs.ReadBack.{Turns}

-- Between two interval forms: the second form's written text of the one interval that the text denotes by the first form's grammar,
-- `Syntax` exactly where the text spells no counts, and `Range` exactly where it does and a share or a sum doesn't fit.
abbrev pub IsIntervalAnswer : Style → Style → List ℕ → Result (List ℕ) Cause → Type 0
IsIntervalAnswer from to text (Ok out) =
    (t : Interval) × Denotes (Shape from) text t × (out ≡ style_text to t)
IsIntervalAnswer from to text (Err Syntax) = (counts : List Count) → ¬ (Shape from text counts)
IsIntervalAnswer from to text (Err Range) =
    (counts : List Count) × Shape from text counts × (fits counts ≡ false)
IsIntervalAnswer from to text (Err _) = ⊥

-- What a text of one form is in another, or the cause why it is nothing: between two interval forms by their styles, and else what
-- the second form writes of what the first reads.
unfoldable pub IsAnswer : Form → Form → List ℕ → Result (List ℕ) Cause → Type 0
IsAnswer from to text answer =
    ((s : Style) × (t : Style) × (style_of from ≡ Some s) × (style_of to ≡ Some t)
    × IsIntervalAnswer s t text answer)
    ⊎ (((style_of from ≡ None) ⊎ (style_of to ≡ None)) × Turns from to text answer)

-- an answer as it stands in a reply
abbrev pub answer_text : Result (List ℕ) Cause → List ℕ
answer_text (Ok out) = out
answer_text (Err cause) = codes "refused " ++ cause_name cause

-- whether an answer is a refusal
abbrev pub is_refusal : Result (List ℕ) Cause → Bool
is_refusal (Ok out) = false
is_refusal (Err cause) = true

-- the line is UTF-8, and asks for the text of the first form in the second: it ends behind the names, and the text is empty, or a
-- space and the text follow
abbrev pub IsRequest : List ℕ → Form → Form → List ℕ → Type 0
IsRequest line from to text =
    let names = name_of from ++ (codes " " ++ name_of to) in
    IsUtf8 line × (((line ≡ names) × (text ≡ [])) ⊎ (line ≡ names ++ (codes " " ++ text)))

-- the reply to a line, without its line feed: `refused Line` where the line is no request, and else the text of its answer
abbrev pub IsReply : List ℕ → List ℕ → Type 0
IsReply line out =
    (((from to : Form) (text : List ℕ) → IsRequest line from to text → ⊥)
    × (out ≡ codes "refused Line"))
    ⊎ ((from : Form) × (to : Form) × (text : List ℕ) × (answer : Result (List ℕ) Cause)
    × IsRequest line from to text × IsAnswer from to text answer × (out ≡ answer_text answer))

-- one reply for each line, in order, each with a line feed
abbrev pub AreReplies : List (List ℕ) → List ℕ → Type 0
AreReplies lines out =
    IsJoin (λ piece line. (reply : List ℕ) × IsReply line reply × (piece ≡ reply ++ codes "\n"))
    out lines

-- a prefix of the replies: a prefix of those to the first so many lines
pub record IsFrontOfReplies (lines : List (List ℕ)) (out : List ℕ) : Type 0 where
  pub answered : List (List ℕ)
  pub others : List (List ℕ)
  pub back : List ℕ
  pub split : lines ≡ answered ++ others
  pub replies : AreReplies answered (out ++ back)
