-- Answers to the goals of the law `one_value`.
use Rattle.port_toml_datetime.proofs.Table.{one_value}
use Rattle.port_toml_datetime.proofs.laws.one_value.Goals as goal

pub returns : goal.returns
returns c = one_value
