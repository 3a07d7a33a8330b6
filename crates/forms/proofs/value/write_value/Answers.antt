-- Answers to the goals of `value::write_value`.
use Rattle.std.proofs.Common.{Err}
use Rattle.forms.specs.Forms.{Writes}
use Rattle.forms.proofs.Lawful.{exactly_written}
use Rattle.forms.proofs.Putting.{alone, refuses}
use Rattle.forms.proofs.value.write_value.Goals as goal

pub returns-in-Ok-clause-answer : goal.returns-in-Ok-clause-answer
returns-in-Ok-clause-answer c = exactly_written c.args.form (c.all_lawful.ensures c.args.form) c.args.value _
    (alone (Writes c.args.form c.args.value) _ _ c.new-out.ensures c.in-Ok.ensures.answer)

pub returns-in-Err-clause-answer : goal.returns-in-Err-clause-answer
returns-in-Err-clause-answer c = exactly_written c.args.form (c.all_lawful.ensures c.args.form) c.args.value (Err c.in-Err.cause)
    (refuses (Writes c.args.form c.args.value) _ _ c.in-Err.cause c.in-Err.ensures.answer).0
