-- Answers to the goals of `form::timestamps::push`.
use Rattle.std.proofs.Common.{ℕ, List}
use Rattle.forms.specs.form.PgTimestamp.{Holds}
use Rattle.forms.proofs.Putting.{puts_held, puts_none}
use Rattle.forms.proofs.form.timestamps.push.Goals as goal

pub returns-in-Ok-clause-answer : goal.returns-in-Ok-clause-answer
returns-in-Ok-clause-answer g c =
    let text = c.push_text.ensures.bytes in
    puts_held Holds (λ (l : List ℕ). l) c.args.value text.0 _ _ (c.in-Ok.ensures.1 text.0 text.1) text.2

pub returns-in-Err-clause-answer : goal.returns-in-Err-clause-answer
returns-in-Err-clause-answer g c = puts_none Holds (λ (l : List ℕ). l) c.args.value c.in-Err.cause _ c.in-Err.ensures
