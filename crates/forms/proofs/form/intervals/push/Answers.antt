-- Answers to the goals of `form::intervals::push`.
use Rattle.pg_interval_2.specs.Styles.{style_text}
use Rattle.forms.specs.Answers.{Is}
use Rattle.forms.specs.form.Intervals.{held}
use Rattle.forms.proofs.Putting.{puts_held, puts_none}
use Rattle.forms.proofs.form.intervals.push.Goals as goal

pub returns-in-Ok-clause-answer : goal.returns-in-Ok-clause-answer
returns-in-Ok-clause-answer g c = puts_held (Is held) (style_text c.args.style) c.args.value c.in-Ok.interval _ _ c.in-Ok.ensures
    c.push_text.ensures.bytes

pub returns-in-Err-clause-answer : goal.returns-in-Err-clause-answer
returns-in-Err-clause-answer g c = puts_none (Is held) (style_text c.args.style) c.args.value c.in-Err.cause _ c.in-Err.ensures
