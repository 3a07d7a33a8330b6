-- Answers to the goals of `form::xml_durations::push`.
use Rattle.xsd_duration.specs.Written.{xml_duration_text}
use Rattle.forms.specs.Answers.{Is}
use Rattle.forms.specs.form.XsdDuration.{held}
use Rattle.forms.proofs.Putting.{puts_held, puts_none}
use Rattle.forms.proofs.form.xml_durations.push.Goals as goal

pub returns-in-Ok-clause-answer : goal.returns-in-Ok-clause-answer
returns-in-Ok-clause-answer g c = puts_held (Is held) xml_duration_text c.args.value c.in-Ok.interval _ _ c.in-Ok.ensures.held
    c.push_text.ensures.bytes

pub returns-in-Err-clause-answer : goal.returns-in-Err-clause-answer
returns-in-Err-clause-answer g c = puts_none (Is held) xml_duration_text c.args.value c.in-Err.cause _ c.in-Err.ensures.held
