-- Answers to the goals of the law `texts_are_read_back`.
use Rattle.pg_timestamp.proofs.WrittenFacts.{text_read_back}
use Rattle.pg_timestamp.proofs.laws.texts_are_read_back.Goals as goal

pub returns : goal.returns
returns c = text_read_back
