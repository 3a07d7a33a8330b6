-- Answers to the goals of the law `texts_are_of_one_alphabet`.
use Rattle.pg_interval_2.proofs.Alphabet.{in_alphabet}
use Rattle.pg_interval_2.proofs.laws.texts_are_of_one_alphabet.Goals as goal

pub returns : goal.returns
returns c = in_alphabet
