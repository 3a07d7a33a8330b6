-- Answers to the goals of the law `checks_are_the_grammar`.
use Rattle.port_toml_datetime.proofs.Table.{table_sound, table_exact}
use Rattle.port_toml_datetime.proofs.laws.checks_are_the_grammar.Goals as goal

pub returns : goal.returns
returns c = λ text value. (table_sound text value, table_exact text value)
