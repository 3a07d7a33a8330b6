-- Answers to the goals of `laws::texts_have_one_interval_or_cause`.
use Rattle.forms.proofs.Intervals.{one_found}
use Rattle.forms.proofs.laws.texts_have_one_interval_or_cause.Goals as goal

pub returns : goal.returns
returns c = one_found c.text_has_one_list_of_counts.ensures
