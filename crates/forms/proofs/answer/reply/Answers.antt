-- Answers to the goals of `answer::reply`.
use Rattle.std.proofs.Common.{◌≡◌, ◌↔◌, ℕ, List, Result, refl, subst}
use Rattle.forms.specs.ReadBack.{Turns}
use Rattle.forms.specs.declared.cause.Cause.{Cause}
use Rattle.forms.specs.Answers.{bytes_of}
use Rattle.forms.proofs.Lawful.{exactly_turned}
use Rattle.forms.proofs.answer.reply.Goals as goal

pub returns-clause-answer : goal.returns-clause-answer
returns-clause-answer c = λ answer.
    let both = c.answers_are_readings_written.ensures c.args.from c.args.to c.args.text.now answer in
    let read = (c.read_value.ensures.answer c.read_value.result).0 refl in
    let exact = exactly_turned c.args.from c.args.to (c.all_lawful.ensures c.args.from) (c.all_lawful.ensures c.args.to) c.args.text.now
    (bytes_of c.written.result) (c.read_value.result, read, c.written.ensures.answer) answer in
    (λ e. both.1 (exact.0 e), λ h. exact.1 (both.0 h))

pub returns-clause-turned : goal.returns-clause-turned
returns-clause-turned c =
    let read = (c.read_value.ensures.answer c.read_value.result).0 refl in
    exactly_turned c.args.from c.args.to (c.all_lawful.ensures c.args.from) (c.all_lawful.ensures c.args.to) c.args.text.now
    (bytes_of c.written.result) (c.read_value.result, read, c.written.ensures.answer)

pub returns-then-is_counted-clause-turned : goal.returns-then-is_counted-clause-turned
returns-then-is_counted-clause-turned c =
    subst (λ (text : List ℕ). (answer : Result (List ℕ) Cause) → (bytes_of c.reply_alone.result ≡ answer)
    ↔ Turns c.args.from c.args.to text answer) c.new.ensures c.reply_alone.ensures.turned
