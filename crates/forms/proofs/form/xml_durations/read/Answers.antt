-- Answers to the goals of `form::xml_durations::read`.
use Rattle.std.proofs.Common.{arith}
use Rattle.std.proofs.lemmas.Int.{ints}
use Rattle.xsd_duration.specs.Durations.{SpellsDuration}
use Rattle.forms.proofs.Intervals.{reads_as}
use Rattle.forms.proofs.XmlDurations.{reads_refused}
use Rattle.forms.proofs.form.xml_durations.read.Goals as goal

pub returns-in-Ok : goal.returns-in-Ok
returns-in-Ok c =
    let range = c.a_denoted_interval_is_in_range.ensures c.args.text.now c.in-Ok.interval c.in-Ok.ensures.ok in
    let months = range.months in
    let days = range.days in
    let micros = range.microseconds in
    reads_as SpellsDuration c.args.text.now c.in-Ok.interval _ _ _ c.in-Ok.ensures.ok (omega (arith, ints)) (omega (arith, ints))
    (omega (arith, ints))

pub returns-in-Err : goal.returns-in-Err
returns-in-Err c = rw c.cause_of.ensures (reads_refused c.args.text.now c.in-Err.error c.in-Err.ensures.err)
