-- Answers to the goals of `time::civil_of`.
use Rattle.std.proofs.Common.{arith}
use Rattle.std.proofs.lemmas.Int.{ints}
use Rattle.dos_date.proofs.time.civil_of.Goals as goal

pub returns-in-Ok-clause-value : goal.returns-in-Ok-clause-value
returns-in-Ok-clause-value c =
    let hms = c.in-Ok.ensures.value in
    (c.fields-hour.result.2, omega (arith, ints, hms), omega (arith, ints, hms), omega (arith, ints, hms))
