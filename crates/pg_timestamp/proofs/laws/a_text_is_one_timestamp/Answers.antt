-- Answers to the goals of the law `a_text_is_one_timestamp`.
use Rattle.pg_timestamp.proofs.PlaceFacts.{one_timestamp}
use Rattle.pg_timestamp.proofs.laws.a_text_is_one_timestamp.Goals as goal

pub returns : goal.returns
returns c = one_timestamp
