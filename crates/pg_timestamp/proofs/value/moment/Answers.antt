-- Answers to the goals of `value::moment`.
use Rattle.std.proofs.Common.{arith}
use Rattle.std.proofs.lemmas.Int.{ints}
use Rattle.pg_timestamp.proofs.value.moment.Goals as goal

pub returns : goal.returns
returns c =
    let day = c.requires.day in
    let micros = c.requires.micros in
    let seconds = c.requires.seconds in
    omega (arith, ints, day.0, day.1, micros, seconds)
