-- Answers to the goals of `sums::total_of`.
use Rattle.std.proofs.Common.{map}
use Rattle.interval_column.proofs.Adding.{total_by, sums_are}
use Rattle.interval_column.proofs.sums.total_of.Goals as goal

pub returns : goal.returns
returns g c =
    total_by c.interval_of.result (map g.T.HasInterval.interval_of c.args.items.now) _
    (sums_are (map g.T.HasInterval.interval_of c.args.items.now) c.sums_of.result.months c.sums_of.result.days c.sums_of.result.micros
    c.sums_of.ensures.months c.sums_of.ensures.days c.sums_of.ensures.micros)
    c.interval_of.ensures.some c.interval_of.ensures.value
