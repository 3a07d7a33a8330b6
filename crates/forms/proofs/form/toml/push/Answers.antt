-- Answers to the goals of `form::toml::push`.
use Rattle.port_toml_datetime.specs.Texts.{text_of}
use Rattle.forms.specs.form.Toml.{Holds}
use Rattle.forms.proofs.Putting.{puts_held, puts_none}
use Rattle.forms.proofs.form.toml.push.Goals as goal

pub returns-in-Ok-clause-answer : goal.returns-in-Ok-clause-answer
returns-in-Ok-clause-answer g c = puts_held Holds text_of c.args.value c.in-Ok.datetime _ _ c.in-Ok.ensures c.push_text.ensures.bytes

pub returns-in-Err-clause-answer : goal.returns-in-Err-clause-answer
returns-in-Err-clause-answer g c = puts_none Holds text_of c.args.value c.in-Err.cause _ c.in-Err.ensures
