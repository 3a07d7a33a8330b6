-- Answers to the goals of `date_time::seconds_at`.
use Rattle.std.proofs.Common.{arith}
use Rattle.std.proofs.lemmas.Int.{ints}
use Rattle.internet_dates.proofs.date_time.seconds_at.Goals as goal

pub returns : goal.returns
returns c =
    let day = c.ranges.day in
    let clock = c.ranges.clock in
    let offset = c.ranges.offset in
    omega (arith, ints)
