-- Answers to the goals of `form::iso_duration::push`.
use Rattle.iso8601.specs.WrittenDurations.{duration_text}
use Rattle.forms.specs.Answers.{Is}
use Rattle.forms.specs.form.IsoDuration.{held}
use Rattle.forms.proofs.Putting.{puts_held, puts_none}
use Rattle.forms.proofs.form.iso_duration.push.Goals as goal

pub returns-in-Ok-clause-answer : goal.returns-in-Ok-clause-answer
returns-in-Ok-clause-answer g c = puts_held (Is held) duration_text c.args.value c.in-Ok.duration _ _ c.in-Ok.ensures
    c.push_text.ensures.bytes

pub returns-in-Err-clause-answer : goal.returns-in-Err-clause-answer
returns-in-Err-clause-answer g c = puts_none (Is held) duration_text c.args.value c.in-Err.cause _ c.in-Err.ensures
