-- Answers to the goals of the law `each_end_leaves_a_front`.
use Rattle.forms.proofs.Ends.{each_end_leaves_a_front}
use Rattle.forms.proofs.laws.each_end_leaves_a_front.Goals as goal

pub returns : goal.returns
returns c = each_end_leaves_a_front
