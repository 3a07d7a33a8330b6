-- Answers to the goals of `form::toml::utc`.
use Rattle.std.proofs.Common.{rules}
use Rattle.forms.proofs.TomlDateTimes.{instant_held}
use Rattle.forms.proofs.form.toml.utc.Goals as goal

pub returns : goal.returns
returns c =
    instant_held c.args.nanos _ c.unsigned_abs-clock.result _ c.dated.result c.dated.ensures c.time_of.ensures (search rules) (search rules)
