-- Answers to the goals of `reading::unit_names::unit_named`.
use Rattle.std.proofs.Common.{◌∙◌}
use Rattle.pg_interval_2.proofs.UnitWords.{unit_so}
use Rattle.pg_interval_2.proofs.reading.unit_names.unit_named.Goals as goal

pub returns : goal.returns
returns c = λ letters all known. c.unit_packed.ensures ∙ unit_so c.args.names letters c.args.word.value all known
