-- Answers to the goals of the law `one_answer`.
use Rattle.port_toml_datetime.proofs.Table.{one_answer}
use Rattle.port_toml_datetime.proofs.laws.one_answer.Goals as goal

pub returns : goal.returns
returns c = one_answer
