-- Answers to the goals of `answer::reply_counted`.
use Rattle.forms.specs.Answers.{bytes_of}
use Rattle.forms.proofs.Lawful.{exactly_turned, only_read}
use Rattle.forms.proofs.answer.reply_counted.Goals as goal

pub returns-clause-answer : goal.returns-clause-answer
returns-clause-answer g c = λ answer.
    let both = c.answers_are_readings_written.ensures c.args.from c.args.to c.args.text.now answer in
    let exact = exactly_turned c.args.from c.args.to (c.all_lawful.ensures c.args.from) (c.all_lawful.ensures c.args.to) c.args.text.now
    (bytes_of c.written.result) (c.read_counted.result, c.read_counted.ensures.read, c.written.ensures.answer) answer in
    (λ e. both.1 (exact.0 e), λ h. exact.1 (both.0 h))

pub returns-clause-turned : goal.returns-clause-turned
returns-clause-turned g c = exactly_turned c.args.from c.args.to (c.all_lawful.ensures c.args.from)
    (c.all_lawful.ensures c.args.to) c.args.text.now (bytes_of c.written.result)
    (c.read_counted.result, c.read_counted.ensures.read, c.written.ensures.answer)

pub returns-clause-least : goal.returns-clause-least
returns-clause-least g c = only_read _ c.args.to c.read_counted.result c.written.result c.written.ensures.answer
    c.read_counted.ensures.least
