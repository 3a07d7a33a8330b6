-- Answers to the goals of the law `a_value_has_one_text`.
use Rattle.pg_timestamp.proofs.OneText.{one_text}
use Rattle.pg_timestamp.proofs.laws.a_value_has_one_text.Goals as goal

pub returns : goal.returns
returns c = one_text c.years_and_weeks_follow_each_other.ensures.next
