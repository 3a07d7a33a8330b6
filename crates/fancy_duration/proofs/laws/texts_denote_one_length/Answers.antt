-- Answers to the goals of the law `texts_denote_one_length`.
use Rattle.fancy_duration.proofs.Totals.{denotes_unique}
use Rattle.fancy_duration.proofs.laws.texts_denote_one_length.Goals as goal

pub returns : goal.returns
returns c = denotes_unique
