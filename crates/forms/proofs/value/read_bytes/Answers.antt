-- Answers to the goals of `value::read_bytes`.
use Rattle.std.proofs.Common.{subst}
use Rattle.forms.specs.Forms.{Reads}
use Rattle.forms.specs.Values.{IsWithinBounds}
use Rattle.forms.proofs.Lawful.{exactly_read, if_ok}
use Rattle.forms.proofs.value.read_bytes.Goals as goal

pub returns-clause-answer : goal.returns-clause-answer
returns-clause-answer c = exactly_read c.args.form (c.all_lawful.ensures c.args.form) c.args.text.now c.read.result c.read.ensures

pub returns-clause-within : goal.returns-clause-within
returns-clause-within c = if_ok IsWithinBounds c.read.result (λ value is. (c.all_lawful.ensures c.args.form).within c.args.text.now value
    (subst (Reads c.args.form c.args.text.now) is c.read.ensures))
