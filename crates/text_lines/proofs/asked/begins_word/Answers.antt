-- Answers to the goals of `asked::begins_word`.
use Rattle.std.proofs.Common.{◌++◌, ◌∷◌, List, ℕ, inl, inr, ◌∙◌, ap}
use Rattle.text_lines.proofs.AskedWords.{word_before, word_alone}
use Rattle.text_lines.proofs.asked.begins_word.Goals as goal

pub returns-in-Some : goal.returns-in-Some
returns-in-Some c = (
  λ is. inr (
    c.in-Some.field-0-1.now,
    c.in-Some.ensures.found.joined
        ∙ ap (λ (l : List ℕ). l ++ 32 ∷ c.in-Some.field-0-1.now) (c.is_same.ensures.0 is),
  ),
  λ begins. c.is_same.ensures.1 (word_before c.args.text.now c.in-Some.first.now c.in-Some.field-0-1.now c.args.word.now
      c.in-Some.ensures.found c.requires begins),
)

pub returns-in-None : goal.returns-in-None
returns-in-None c = (
  λ is. inl (c.is_same-in-None.ensures.0 is),
  λ begins. c.is_same-in-None.ensures.1 (word_alone c.args.text.now c.args.word.now c.in-None.ensures.none begins),
)
