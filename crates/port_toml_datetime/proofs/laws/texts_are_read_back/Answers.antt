-- Answers to the goals of the law `texts_are_read_back`.
use Rattle.port_toml_datetime.proofs.ReadBack.{read_back}
use Rattle.port_toml_datetime.proofs.laws.texts_are_read_back.Goals as goal

pub returns : goal.returns
returns c = read_back
