-- Answers to the goals of `read::sum_of`.
use Rattle.std.proofs.Common.{◌∙◌, sym, ap}
use Rattle.fancy_duration.specs.inside.Reading.{items_of, capped, sum_with}
use Rattle.fancy_duration.specs.Sums.{total, long_follows}
use Rattle.fancy_duration.proofs.Units.{passes_item}
use Rattle.fancy_duration.proofs.read.sum_of.Goals as goal

pub loop-number-preserved : goal.loop-number-preserved
loop-number-preserved c =
    let found = c.in-Some.ensures.found in
    let later = items_of c.in-Some.after.now in
    let nanos = c.loop-number.tally.nanos in
    let pending = c.loop-number.tally.pending in
    ap capped (passes_item found.0 later nanos pending (λ part e. c.in_default-named.ensures.none part (found.3 ∙ e)))
    ∙ ap (λ items. capped (sum_with nanos pending (long_follows items) (total items))) (sym found.1)
    ∙ c.loop-number.invariant
