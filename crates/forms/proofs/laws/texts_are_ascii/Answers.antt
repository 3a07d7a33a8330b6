-- Answers to the goals of the law `texts_are_ascii`.
use Rattle.forms.proofs.laws.texts_are_ascii.Goals as goal

pub returns : goal.returns
returns c form text answer read other = (c.all_lawful.ensures form).ascii text answer read other
