-- Answers to the goals of the law `values_are_well_formed`.
use Rattle.port_toml_datetime.proofs.WellFormedFacts.{well_formed}
use Rattle.port_toml_datetime.proofs.laws.values_are_well_formed.Goals as goal

pub returns : goal.returns
returns c = well_formed
