-- Answers to the goals of `answer::asked`.
use Rattle.std.proofs.Common.{◌≤◌, ℕ, inr, refl, subst, ap, ◌∙◌, arith, Result}
use Rattle.scan_core.specs.Digits.{number_of}
use Rattle.forms.specs.Forms.{Reads}
use Rattle.forms.specs.declared.cause.Cause.{Cause}
use Rattle.forms.specs.declared.form.Form.TheVariants.{IsoDateTime}
use Rattle.forms.specs.declared.value.Value.{Value}
use Rattle.recurrence.specs.Replies.{IsStartReply}
use Rattle.recurrence.proofs.answer.asked.Goals as goal

pub returns-in-Some-clause-reply : goal.returns-in-Some-clause-reply
returns-in-Some-clause-reply c out h =
    let same = ap number_of c.as_bytes.ensures.value in
    let value = c.in-Some.ensures.value ∙ same in
    let few : number_of c.args.digits.now ≤ 10_000 = omega (arith, c.in-Some.ensures.some.0 refl, same) in
    let asked = subst (λ (n : ℕ). (moment : Result Value Cause) × Reads IsoDateTime c.args.start.now moment
    × IsStartReply n moment c.args.step.now out) value (c.started.ensures.reply out h) in
    inr (few, asked.0, asked.1, asked.2)
