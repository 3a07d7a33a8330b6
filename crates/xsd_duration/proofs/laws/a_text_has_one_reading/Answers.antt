-- Answers to the goals of `laws::a_text_has_one_reading`.
use Rattle.xsd_duration.proofs.Denoted.{one_list, one_interval}
use Rattle.xsd_duration.proofs.laws.a_text_has_one_reading.Goals as goal

pub returns-clause-counts : goal.returns-clause-counts
returns-clause-counts c = one_list

pub returns-clause-interval : goal.returns-clause-interval
returns-clause-interval c = one_interval
