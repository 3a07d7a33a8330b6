-- Answers to the goals of the law `texts_are_ascii`.
use Rattle.pg_timestamp.proofs.AsciiTexts.{timestamp_ascii}
use Rattle.pg_timestamp.proofs.laws.texts_are_ascii.Goals as goal

pub returns : goal.returns
returns c = timestamp_ascii
