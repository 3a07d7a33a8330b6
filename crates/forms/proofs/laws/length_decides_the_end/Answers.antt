-- Answers to the goals of the law `length_decides_the_end`.
use Rattle.forms.proofs.Ends.{length_decides_the_end}
use Rattle.forms.proofs.laws.length_decides_the_end.Goals as goal

pub returns : goal.returns
returns c = length_decides_the_end
