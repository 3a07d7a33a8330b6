-- Answers to the goals of `form::iso_date_time::push`.
use Rattle.iso8601.specs.Written.{date_time_text}
use Rattle.forms.specs.form.IsoDateTime.{Holds}
use Rattle.forms.proofs.Putting.{puts_held, puts_none}
use Rattle.forms.proofs.form.iso_date_time.push.Goals as goal

pub returns-in-Ok-clause-answer : goal.returns-in-Ok-clause-answer
returns-in-Ok-clause-answer g c = puts_held Holds date_time_text c.args.value c.in-Ok.datetime _ _ c.in-Ok.ensures.held
    c.push_text_of.ensures.bytes

pub returns-in-Err-clause-answer : goal.returns-in-Err-clause-answer
returns-in-Err-clause-answer g c = puts_none Holds date_time_text c.args.value c.in-Err.cause _ c.in-Err.ensures.held
