-- Answers to the goals of `answer::push_answer`.
use Rattle.std.proofs.Common.{Ok, Err, refl}
use Rattle.forms.specs.ReadBack.{Turns}
use Rattle.forms.proofs.Putting.{gains, refuses}
use Rattle.forms.proofs.answer.push_answer.Goals as goal

pub returns-in-Ok-clause-answer : goal.returns-in-Ok-clause-answer
returns-in-Ok-clause-answer g c =
    let text = c.args.text.now in
    let turned = rw c.as_bytes.ensures.value at c.in-Ok.ensures.turned in
    let all = gains (Turns c.args.from c.args.to text) _ _ turned in
    (Ok all.text, (c.answers_are_readings_written.ensures c.args.from c.args.to text (Ok all.text)).1 all.is, all.gained, refl)

pub returns-in-Err-clause-answer : goal.returns-in-Err-clause-answer
returns-in-Err-clause-answer g c =
    let text = c.args.text.now in
    let turned = rw c.as_bytes.ensures.value at c.in-Err.ensures.turned in
    let none = refuses (Turns c.args.from c.args.to text) _ _ c.in-Err.cause turned in (
      Err c.in-Err.cause,
      (c.answers_are_readings_written.ensures c.args.from c.args.to text (Err c.in-Err.cause)).1 none.0,
      simp (c.push_refusal.ensures.bytes, c.name.ensures, none.1) refl,
      refl,
    )
