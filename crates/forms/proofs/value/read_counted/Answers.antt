-- Answers to the goals of `value::read_counted`.
use Rattle.std.proofs.Common.{subst}
use Rattle.forms.specs.Forms.{Reads}
use Rattle.forms.specs.Values.{IsWithinBounds}
use Rattle.forms.proofs.Lawful.{if_ok}
use Rattle.forms.proofs.value.read_counted.Goals as goal

pub returns-clause-within : goal.returns-clause-within
returns-clause-within g c =
    if_ok IsWithinBounds c.read_by_looks.result (λ value is. (c.all_lawful.ensures c.args.form).within c.args.text.now value
    (subst (Reads c.args.form c.args.text.now) is c.read_by_looks.ensures.read))
