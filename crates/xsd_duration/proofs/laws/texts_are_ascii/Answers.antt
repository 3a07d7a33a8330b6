-- Answers to the goals of `laws::texts_are_ascii`.
use Rattle.xsd_duration.proofs.AsciiTexts.{duration_is_ascii}
use Rattle.xsd_duration.proofs.laws.texts_are_ascii.Goals as goal

pub returns : goal.returns
returns c = duration_is_ascii
