-- Answers to the goals of the law `written_texts_are_read_back`.
use Rattle.fancy_duration.proofs.ReadBack.{read_back}
use Rattle.fancy_duration.proofs.laws.written_texts_are_read_back.Goals as goal

pub returns : goal.returns
returns c = read_back
