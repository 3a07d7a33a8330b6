-- Answers to the goals of the law `texts_are_ascii`.
use Rattle.port_toml_datetime.proofs.AsciiTexts.{datetime_is_ascii}
use Rattle.port_toml_datetime.proofs.laws.texts_are_ascii.Goals as goal

pub returns : goal.returns
returns c = datetime_is_ascii
