-- Answers to the goals of the law `texts_are_ascii`.
use Rattle.fancy_duration.proofs.AsciiTexts.{length_is_ascii}
use Rattle.fancy_duration.proofs.laws.texts_are_ascii.Goals as goal

pub returns : goal.returns
returns c = length_is_ascii
