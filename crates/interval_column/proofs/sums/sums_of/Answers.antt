-- Answers to the goals of `sums::sums_of`.
use Rattle.std.proofs.Common.{arith}
use Rattle.interval_column.proofs.Adding.{summed_more, all_summed}
use Rattle.interval_column.proofs.sums.sums_of.Goals as goal

pub add-requires : goal.add-requires
add-requires g c =
    let adds = c.loop-item.invariant.adds in
    let inside = c.loop-item-test.true in
    let short = c.requires in
    omega (arith, adds, inside, short)

pub loop-item-preserved : goal.loop-item-preserved
loop-item-preserved g c = record {
  summed = summed_more g.T.HasInterval.interval_of c.args.items.now _ _ _ c.loop-item.item-index c.item-item.result c.interval.result _ _ _
      c.loop-item.invariant.summed c.loop-item-test.true c.item-item.is c.interval.ensures c.add.ensures.months c.add.ensures.days
      c.add.ensures.micros;
  adds = let adds = c.add.ensures.adds in let before = c.loop-item.invariant.adds in omega (arith, adds, before);
}

pub returns-clause-months : goal.returns-clause-months
returns-clause-months g c = (all_summed _ c.args.items.now _ _ _ c.loop-item.item-index c.loop-item.invariant.summed
    (let end = c.loop-item-test.false in omega (arith, end))).0

pub returns-clause-days : goal.returns-clause-days
returns-clause-days g c = (all_summed _ c.args.items.now _ _ _ c.loop-item.item-index c.loop-item.invariant.summed
    (let end = c.loop-item-test.false in omega (arith, end))).1

pub returns-clause-micros : goal.returns-clause-micros
returns-clause-micros g c = (all_summed _ c.args.items.now _ _ _ c.loop-item.item-index c.loop-item.invariant.summed
    (let end = c.loop-item-test.false in omega (arith, end))).2
