-- Answers to the goals of `laws::asked_words_begin_with_a_capital`.
use Rattle.text_lines.proofs.AskedWords.{lines_capital, text_capital}
use Rattle.text_lines.proofs.laws.asked_words_begin_with_a_capital.Goals as goal

pub returns : goal.returns
returns c = record { lines = lines_capital; text = text_capital }
