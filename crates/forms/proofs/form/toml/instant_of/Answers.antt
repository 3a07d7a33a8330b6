-- Answers to the goals of `form::toml::instant_of`.
use Rattle.std.proofs.Common.{arith}
use Rattle.std.proofs.lemmas.Int.{ints}
use Rattle.forms.proofs.form.toml.instant_of.Goals as goal

pub returns : goal.returns
returns c =
    let day = c.ranges.day in
    let minutes = c.ranges.minutes in
    let nanos = c.ranges.nanos in
    omega (arith, ints)
