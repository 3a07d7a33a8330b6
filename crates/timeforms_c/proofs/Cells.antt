-- The reply to the text of a cell, as the answer that it is.
use Rattle.std.proofs.Common.{◌≡◌, ℕ, List, Bool, true, false, Ok, Err, inl, inr, ap}
use Rattle.forms.specs.Replies.{IsAnswer}
use Rattle.forms.specs.TextReplies.{IsTextReply}
use Rattle.forms.specs.declared.form.Form.{Form}
use Rattle.timeforms_c.specs.Columns.{IsCoded}

not_true : ◌≡◌ {A = Bool} false true → ⊥
not_true e = cc

-- a reply that is no refusal is an answer
pub answered_text : (from to : Form) (text out : List ℕ) → IsTextReply from to text out false → IsCoded (IsAnswer from to) text (Ok out)
answered_text from to text out (inl (none, said, refused)) = absurd (not_true refused)
answered_text from to text out (inr (Ok found, utf8, is, same, answered)) = inr (utf8, (Ok found, is, ap Ok same))
answered_text from to text out (inr (Err cause, utf8, is, same, answered)) = absurd (not_true answered)
