-- Answers to the goals of `form::fancy::push`.
use Rattle.fancy_duration.specs.Written.{length_text}
use Rattle.forms.specs.Answers.{Is}
use Rattle.forms.specs.form.Fancy.{held}
use Rattle.forms.proofs.Putting.{puts_held, puts_none}
use Rattle.forms.proofs.form.fancy.push.Goals as goal
use Rattle.std.proofs.Common.{rules}

pub returns-in-Ok-clause-answer : goal.returns-in-Ok-clause-answer
returns-in-Ok-clause-answer g c = puts_held (Is held) length_text c.args.value c.in-Ok.nanos _ _ c.in-Ok.ensures.held (search rules)

pub returns-in-Err-clause-answer : goal.returns-in-Err-clause-answer
returns-in-Err-clause-answer g c = puts_none (Is held) length_text c.args.value c.in-Err.cause _ c.in-Err.ensures.held
