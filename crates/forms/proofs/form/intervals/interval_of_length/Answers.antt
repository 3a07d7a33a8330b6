-- Answers to the goals of `form::intervals::interval_of_length`.
use Rattle.std.proofs.Common.{sym, arith}
use Rattle.std.proofs.lemmas.Int.{ints}
use Rattle.forms.proofs.Intervals.{made_of_length, no_length_days, no_whole_micros}
use Rattle.forms.proofs.form.intervals.interval_of_length.Goals as goal

pub returns-in_default : goal.returns-in_default
returns-in_default c = sym (no_length_days c.args.nanos c.in_default.ensures)

pub returns-then-nanos-ne0 : goal.returns-then-nanos-ne0
returns-then-nanos-ne0 c = sym (no_whole_micros c.args.nanos c.in-Ok.ensures.0 c.if-nanos-ne0.true)

pub returns : goal.returns
returns c =
    let fits = c.in-Ok.ensures.0 in
    let days = c.in-Ok.ensures.1 in
    made_of_length c.new.result _ _ c.args.nanos c.new.ensures (omega (arith, ints)) (omega (arith, ints)) fits c.if-nanos-ne0.false
