-- Answers to the goals of `sample::lines::interval_of_draws`.
use Rattle.std.proofs.Common.{arith}
use Rattle.std.proofs.lemmas.Int.{ints}
use Rattle.forms.proofs.SampleLines.{made_of_draws}
use Rattle.forms.proofs.sample.lines.interval_of_draws.Goals as goal

pub returns : goal.returns
returns c = made_of_draws c.new.result _ _ _ c.args.a c.args.b c.args.c c.new.ensures (omega (arith, ints)) (omega (arith, ints))
    (omega (arith, ints))
