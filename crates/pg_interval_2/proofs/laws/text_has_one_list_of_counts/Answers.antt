-- Answers to the goals of the law `text_has_one_list_of_counts`.
use Rattle.pg_interval_2.proofs.OneList.{one_list}
use Rattle.pg_interval_2.proofs.laws.text_has_one_list_of_counts.Goals as goal

pub returns : goal.returns
returns c = one_list
