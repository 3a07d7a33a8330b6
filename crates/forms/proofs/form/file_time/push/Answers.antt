-- Answers to the goals of `form::file_time::push`.
use Rattle.std.specs.Prelude.{decimal}
use Rattle.forms.specs.Answers.{Is}
use Rattle.forms.specs.form.FileTime.{held}
use Rattle.forms.proofs.Putting.{puts_held, puts_none}
use Rattle.forms.proofs.form.file_time.push.Goals as goal

pub returns-in-Ok-clause-answer : goal.returns-in-Ok-clause-answer
returns-in-Ok-clause-answer g c = puts_held (Is held) decimal c.args.value c.in-Ok.ticks _ _ c.in-Ok.ensures c.push_ticks.ensures.bytes

pub returns-in-Err-clause-answer : goal.returns-in-Err-clause-answer
returns-in-Err-clause-answer g c = puts_none (Is held) decimal c.args.value c.in-Err.cause _ c.in-Err.ensures
