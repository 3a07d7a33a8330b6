-- Answers to the goals of `form::toml::fraction_of`.
use Rattle.std.proofs.Common.{sym}
use Rattle.forms.proofs.TomlDateTimes.{no_fraction, some_fraction}
use Rattle.forms.proofs.form.toml.fraction_of.Goals as goal

pub returns-then-fraction-eq0 : goal.returns-then-fraction-eq0
returns-then-fraction-eq0 c = sym (no_fraction c.args.nanos c.if-fraction-eq0.true)

pub returns-else-fraction-eq0 : goal.returns-else-fraction-eq0
returns-else-fraction-eq0 c = sym (some_fraction c.args.nanos c.if-fraction-eq0.false)
