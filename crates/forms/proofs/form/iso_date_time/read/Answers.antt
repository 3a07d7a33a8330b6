-- Answers to the goals of `form::iso_date_time::read`.
use Rattle.forms.specs.form.IsoDateTime.{Worth}
use Rattle.iso8601.specs.DateTimes.{IsDateTime}
use Rattle.forms.proofs.WholeTexts.{reads_whole, reads_part, reads_no_front}
use Rattle.forms.proofs.form.iso_date_time.read.Goals as goal

pub returns-then-is_empty : goal.returns-then-is_empty
returns-then-is_empty c = reads_whole IsDateTime Worth c.args.text.now c.in-Ok.rest.now c.in-Ok.datetime c.moment_of.result
    c.is_empty.result c.in-Ok.ensures.found c.is_empty.ensures c.if-is_empty.true c.moment_of.ensures

pub returns-else-is_empty : goal.returns-else-is_empty
returns-else-is_empty c = reads_part IsDateTime Worth c.args.text.now c.in-Ok.rest.now c.is_empty.result
    c.in-Ok.ensures.longest c.is_empty.ensures c.if-is_empty.false

pub returns-in-Err : goal.returns-in-Err
returns-in-Err c = reads_no_front IsDateTime Worth c.args.text.now c.in-Err.ensures.none
