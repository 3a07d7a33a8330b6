-- Answers to the goals of `form::intervals::read_interval`.
use Rattle.forms.proofs.form.intervals.read_interval.Goals as goal

pub returns-in-Err : goal.returns-in-Err
returns-in-Err c =
    let answers = rw c.of_bytes.ensures at c.in-Err.ensures.answers in
    c.cause_of.ensures c.args.style c.args.text.now answers.err
