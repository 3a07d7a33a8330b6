-- Answers to the goals of `laws::a_text_has_one_refusal`.
use Rattle.xsd_duration.proofs.Denoted.{one_refusal, no_refusal}
use Rattle.xsd_duration.proofs.laws.a_text_has_one_refusal.Goals as goal

pub returns-clause-one : goal.returns-clause-one
returns-clause-one c = one_refusal

pub returns-clause-none : goal.returns-clause-none
returns-clause-none c = no_refusal
