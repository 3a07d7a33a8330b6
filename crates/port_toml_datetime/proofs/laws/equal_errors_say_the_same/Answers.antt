-- Answers to the goals of the law `equal_errors_say_the_same`.
use Rattle.port_toml_datetime.proofs.FaultFacts.{same_is}
use Rattle.port_toml_datetime.proofs.laws.equal_errors_say_the_same.Goals as goal

pub returns : goal.returns
returns c = same_is
