-- Answers to the goals of the law `values_have_one_writing`.
use Rattle.forms.proofs.laws.values_have_one_writing.Goals as goal

pub returns : goal.returns
returns c = λ form. (c.all_lawful.ensures form).one_written
