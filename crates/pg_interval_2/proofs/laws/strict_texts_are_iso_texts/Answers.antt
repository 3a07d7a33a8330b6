-- Answers to the goals of the law `strict_texts_are_iso_texts`.
use Rattle.pg_interval_2.proofs.laws.strict_texts_are_iso_texts.Goals as goal

pub returns-clause-counts : goal.returns-clause-counts
returns-clause-counts c text counts strict = strict.0

pub returns-clause-denotes : goal.returns-clause-denotes
returns-clause-denotes c text t denoted = (denoted.0, denoted.1.0, denoted.2, denoted.3)
