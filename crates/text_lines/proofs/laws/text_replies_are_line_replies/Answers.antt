-- Answers to the goals of `laws::text_replies_are_line_replies`.
use Rattle.std.proofs.Common.{⊎_elim, inl, inr}
use Rattle.text_lines.proofs.laws.text_replies_are_line_replies.Goals as goal

pub returns : goal.returns
returns c = λ from to text out refused.
    ⊎_elim (λ h. inl (c.lines_of_two_names_ask_for_their_text.ensures.none from to text h.0, h.1))
    (λ h. inr (from, to, text, h.0, c.lines_of_two_names_ask_for_their_text.ensures.asked from to text h.1, h.2, h.3))
