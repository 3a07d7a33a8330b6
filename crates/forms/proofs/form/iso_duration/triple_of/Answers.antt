-- Answers to the goals of `form::iso_duration::triple_of`.
use Rattle.std.proofs.Common.{◌≡◌, sym, arith, to_z}
use Rattle.std.specs.Prelude.{pos}
use Rattle.std.specs.Int.{w64}
use Rattle.std.proofs.lemmas.Int.{ints}
use Rattle.forms.proofs.IsoDurations.{triple_fits, triple_too_long}
use Rattle.forms.proofs.form.iso_duration.triple_of.Goals as goal

pub returns-then-micros : goal.returns-then-micros
returns-then-micros c = let long = c.if-micros.true in sym (triple_too_long c.args.months c.args.days c.args.micros (omega arith))

pub returns : goal.returns
returns c =
    let fits = c.if-micros.false in
    let m = c.requires.months in
    let d = c.requires.days in
    let months : to_z w64 c.args.months ≡ pos c.args.months = omega (arith, ints) in
    let days : to_z w64 c.args.days ≡ pos c.args.days = omega (arith, ints) in
    let micros : to_z w64 c.args.micros ≡ pos c.args.micros = omega (arith, ints) in
    rw (months, days, micros) (sym (triple_fits c.args.months c.args.days c.args.micros (omega arith)))
