-- Answers to the goals of `form::timestamps::read`.
use Rattle.std.proofs.Common.{inr, refl}
use Rattle.forms.proofs.form.timestamps.read.Goals as goal

pub returns-in-None : goal.returns-in-None
returns-in-None c = inr (c.in-None.ensures.none, refl)
