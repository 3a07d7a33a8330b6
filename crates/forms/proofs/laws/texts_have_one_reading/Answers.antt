-- Answers to the goals of the law `texts_have_one_reading`.
use Rattle.forms.proofs.laws.texts_have_one_reading.Goals as goal

pub returns : goal.returns
returns c = λ form. (c.all_lawful.ensures form).one
