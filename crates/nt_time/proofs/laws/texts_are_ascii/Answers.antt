-- Answers to the goals of the law `texts_are_ascii`.
use Rattle.nt_time.proofs.AsciiTexts.{text_is_ascii}
use Rattle.nt_time.proofs.laws.texts_are_ascii.Goals as goal

pub returns : goal.returns
returns c = text_is_ascii
