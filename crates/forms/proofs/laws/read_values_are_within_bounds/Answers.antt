-- Answers to the goals of the law `read_values_are_within_bounds`.
use Rattle.forms.proofs.laws.read_values_are_within_bounds.Goals as goal

pub returns : goal.returns
returns c = λ form. (c.all_lawful.ensures form).within
