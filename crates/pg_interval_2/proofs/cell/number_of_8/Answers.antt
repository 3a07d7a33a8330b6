-- Answers to the goals of `cell::number_of_8`.
use Rattle.std.proofs.Common.{rules}
use Rattle.pg_interval_2.proofs.CellFacts.{written_8}
use Rattle.pg_interval_2.proofs.cell.number_of_8.Goals as goal

pub returns : goal.returns
returns c = written_8 c.args.bytes c.from_be_bytes.result (search rules) (search rules) c.from_be_bytes.ensures
