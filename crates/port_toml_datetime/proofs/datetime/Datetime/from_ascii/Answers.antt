-- Answers to the goals of `datetime::Datetime::from_ascii`.
use Rattle.port_toml_datetime.proofs.Table.{read_from}
use Rattle.port_toml_datetime.proofs.datetime.Datetime.from_ascii.Goals as goal

pub returns : goal.returns
returns c = read_from c.args.date.now c.read.result c.read.ensures
