-- Answers to the goals of `spaced::word_len`.
use Rattle.text_lines.proofs.SpacedPlaces.{word_found, word_alone}
use Rattle.text_lines.proofs.spaced.word_len.Goals as goal

pub returns-in-Some-clause-all : goal.returns-in-Some-clause-all
returns-in-Some-clause-all c = (word_found c.args.text.now c.in-Some.n c.in-Some.ensures).1

pub returns-in-None-clause-all : goal.returns-in-None-clause-all
returns-in-None-clause-all c = word_alone c.args.text.now c.in-None.ensures
