-- Answers to the goals of the law `interval_answers_keep_their_interval`.
use Rattle.std.proofs.Common.{List, ℕ, sym, subst}
use Rattle.pg_interval_2.specs.Denotes.{Denotes}
use Rattle.pg_interval_2.specs.Styles.{Shape}
use Rattle.forms.proofs.laws.interval_answers_keep_their_interval.Goals as goal

pub returns : goal.returns
returns c = λ from to text out h.
    let back = c.written_text_is_read_back.ensures.denotes to h.0 (c.denoted_interval_is_in_range.ensures from text h.0 h.1) in
    let P : List ℕ → Type 0 = λ l. Denotes (Shape to) l h.0 in
    (h.0, h.1, subst P (sym h.2) back)
