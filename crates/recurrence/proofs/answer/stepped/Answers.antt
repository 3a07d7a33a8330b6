-- Answers to the goals of `answer::stepped`.
use Rattle.std.proofs.Common.{ℕ, List, Ok, Err, subst}
use Rattle.std.proofs.Math.Facts.{to_z-of_z}
use Rattle.pg_interval_2.specs.declared.style.Style.TheVariants.{Iso}
use Rattle.forms.specs.form.Intervals.{FindsInterval}
use Rattle.recurrence.proofs.answer.stepped.Goals as goal

pub returns-in-Ok-clause-reply : goal.returns-in-Ok-clause-reply
returns-in-Ok-clause-reply c out h =
    let found = subst (λ (text : List ℕ). FindsInterval Iso text (Ok c.in-Ok.interval)) c.as_bytes.ensures.value c.in-Ok.ensures in
    (Ok c.in-Ok.interval, found, rw (to_z-of_z c.ranges.start) at (c.lasting.ensures.reply out h))

pub returns-in-Err-clause-reply : goal.returns-in-Err-clause-reply
returns-in-Err-clause-reply c out h =
    let found = subst (λ (text : List ℕ). FindsInterval Iso text (Err c.in-Err.cause)) c.as_bytes.ensures.value c.in-Err.ensures in
    (Err c.in-Err.cause, found, h)
