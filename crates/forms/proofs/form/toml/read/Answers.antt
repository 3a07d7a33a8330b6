-- Answers to the goals of `form::toml::read`.
use Rattle.std.proofs.Common.{refl, inr}
use Rattle.forms.proofs.form.toml.read.Goals as goal

pub value_of-requires : goal.value_of-requires
value_of-requires c = c.values_are_well_formed.ensures c.args.text.now c.in-Ok.datetime c.in-Ok.ensures.ok

pub returns-in-Err : goal.returns-in-Err
returns-in-Err c = inr (λ datetime spelled. let e = c.in-Err.ensures.all datetime spelled in cc, refl)
