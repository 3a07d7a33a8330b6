-- Answers to the goals of `form::intervals::read_counted`.
use Rattle.std.proofs.Common.{arith}
use Rattle.std.proofs.lemmas.Int.{ints}
use Rattle.pg_interval_2.specs.Styles.{Shape}
use Rattle.forms.proofs.Intervals.{reads_as, reads_refused}
use Rattle.forms.proofs.form.intervals.read_counted.Goals as goal

pub returns-in-Ok-clause-read : goal.returns-in-Ok-clause-read
returns-in-Ok-clause-read g c =
    let range = c.denoted_interval_is_in_range.ensures c.args.style c.args.text.now c.in-Ok.interval c.in-Ok.ensures.answers.ok in
    let months = range.months in
    let days = range.days in
    let micros = range.microseconds in
    reads_as (Shape c.args.style) c.args.text.now c.in-Ok.interval _ _ _ c.in-Ok.ensures.answers.ok (omega (arith, ints)) (omega (arith, ints))
    (omega (arith, ints))

pub returns-in-Err-clause-read : goal.returns-in-Err-clause-read
returns-in-Err-clause-read g c = reads_refused c.args.style c.args.text.now c.cause_of.result
    (c.cause_of.ensures c.args.style c.args.text.now c.in-Err.ensures.answers.err)
