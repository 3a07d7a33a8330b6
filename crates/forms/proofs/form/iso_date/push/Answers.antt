-- Answers to the goals of `form::iso_date::push`.
use Rattle.iso8601.specs.Written.{date_text}
use Rattle.forms.specs.form.IsoDate.{Holds}
use Rattle.forms.proofs.Putting.{puts_held, puts_none}
use Rattle.forms.proofs.form.iso_date.push.Goals as goal

pub returns-in-Ok-clause-answer : goal.returns-in-Ok-clause-answer
returns-in-Ok-clause-answer g c = puts_held Holds date_text c.args.value c.in-Ok.date _ _ c.in-Ok.ensures c.push_text.ensures.bytes

pub returns-in-Err-clause-answer : goal.returns-in-Err-clause-answer
returns-in-Err-clause-answer g c = puts_none Holds date_text c.args.value c.in-Err.cause _ c.in-Err.ensures
