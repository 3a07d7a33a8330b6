-- Answers to the goals of the law `written_texts_are_read_back`.
use Rattle.forms.proofs.laws.written_texts_are_read_back.Goals as goal

pub returns : goal.returns
returns c = λ form. (c.all_lawful.ensures form).back
