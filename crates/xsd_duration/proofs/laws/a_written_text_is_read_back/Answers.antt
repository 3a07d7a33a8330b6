-- Answers to the goals of `laws::a_written_text_is_read_back`.
use Rattle.xsd_duration.proofs.ReadBack.{written_denotes}
use Rattle.xsd_duration.proofs.laws.a_written_text_is_read_back.Goals as goal

pub returns : goal.returns
returns c = written_denotes
