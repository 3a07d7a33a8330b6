-- Answers to the goals of the law `written_text_is_read_back`.
use Rattle.pg_interval_2.proofs.ReadBack.{denotes, alone}
use Rattle.pg_interval_2.proofs.laws.written_text_is_read_back.Goals as goal

pub returns-clause-denotes : goal.returns-clause-denotes
returns-clause-denotes c = denotes

pub returns-clause-alone : goal.returns-clause-alone
returns-clause-alone c = alone
