-- Answers to the goals of `form::iso_date::read`.
use Rattle.forms.specs.form.IsoDate.{Worth}
use Rattle.iso8601.specs.Dates.{IsDate}
use Rattle.forms.proofs.WholeTexts.{reads_whole, reads_part, reads_no_front}
use Rattle.forms.proofs.form.iso_date.read.Goals as goal

pub returns-then-is_empty : goal.returns-then-is_empty
returns-then-is_empty c = reads_whole IsDate Worth c.args.text.now c.in-Ok.rest.now c.in-Ok.date c.day_of.result c.is_empty.result
    c.in-Ok.ensures.found c.is_empty.ensures c.if-is_empty.true c.day_of.ensures

pub returns-else-is_empty : goal.returns-else-is_empty
returns-else-is_empty c = reads_part IsDate Worth c.args.text.now c.in-Ok.rest.now c.is_empty.result
    c.in-Ok.ensures.longest c.is_empty.ensures c.if-is_empty.false

pub returns-in-Err : goal.returns-in-Err
returns-in-Err c = reads_no_front IsDate Worth c.args.text.now c.in-Err.ensures.none
