-- Answers to the goals of the law `written_texts_are_strict`.
use Rattle.fancy_duration.proofs.StrictTexts.{written_strict}
use Rattle.fancy_duration.proofs.laws.written_texts_are_strict.Goals as goal

pub returns : goal.returns
returns c = written_strict
