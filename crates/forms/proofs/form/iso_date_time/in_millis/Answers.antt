-- Answers to the goals of `form::iso_date_time::in_millis`.
use Rattle.std.proofs.Common.{Ok, ap, sym, ◌∙◌}
use Rattle.forms.proofs.IsoDateTimes.{whole_millis, part_millis}
use Rattle.forms.proofs.form.iso_date_time.in_millis.Goals as goal

pub returns-then-civil-eq0-clause-held : goal.returns-then-civil-eq0-clause-held
returns-then-civil-eq0-clause-held c = ap Ok c.utc.ensures.utc ∙ sym (whole_millis c.args.civil c.if-civil-eq0.true)

pub returns-else-civil-eq0-clause-held : goal.returns-else-civil-eq0-clause-held
returns-else-civil-eq0-clause-held c = sym (part_millis c.args.civil c.if-civil-eq0.false)
