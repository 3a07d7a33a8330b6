-- Answers to the goals of `laws::a_denoted_interval_has_one_sign`.
use Rattle.xsd_duration.proofs.ReadBack.{denoted_sign}
use Rattle.xsd_duration.proofs.laws.a_denoted_interval_has_one_sign.Goals as goal

pub returns : goal.returns
returns c = denoted_sign
