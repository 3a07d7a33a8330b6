-- Answers to the goals of the law `still_count_is_no_fault`.
use Rattle.forms.proofs.Ends.{still_count}
use Rattle.forms.proofs.laws.still_count_is_no_fault.Goals as goal

pub returns : goal.returns
returns c = still_count
