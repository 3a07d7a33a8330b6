-- Answers to the goals of `form::iso_duration::held_length`.
use Rattle.std.proofs.Common.{Ok, ap, sym, ◌∙◌, arith}
use Rattle.forms.proofs.IsoDurations.{length_fits, length_part, length_beyond}
use Rattle.forms.proofs.form.iso_duration.held_length.Goals as goal

pub returns-then-days : goal.returns-then-days
returns-then-days c = let beyond = c.if-days.true in sym (length_beyond c.args.nanos (omega arith))

pub returns-then-nanos-ne0 : goal.returns-then-nanos-ne0
returns-then-nanos-ne0 c = let d = c.if-days.false in sym (length_part c.args.nanos (omega arith) c.if-nanos-ne0.true)

pub returns : goal.returns
returns c = let d = c.if-days.false in ap Ok c.duration_of.ensures ∙ sym (length_fits c.args.nanos (omega arith) c.if-nanos-ne0.false)
