-- Answers to the goals of `reading::iso::take_pairs`.
use Rattle.std.proofs.Common.{ℕ, List, arith, refl, subst, sym, ◌∙◌, ◌++◌, [], ◌∷◌}
use Rattle.scan_core.specs.Count.{Count}
use Rattle.scan_core.specs.Scanning.{ahead}
use Rattle.scan_core.proofs.Spending.{spends_none, spends_again, spends_more}
use Rattle.pg_interval_2.specs.inside.Reading.{count_with, numeral_in}
use Rattle.pg_interval_2.specs.inside.Tallies.{Tallies}
use Rattle.pg_interval_2.proofs.IsoSteps.{no_pairs, one_more_pair}
use Rattle.pg_interval_2.proofs.reading.iso.take_pairs.Goals as goal

pub loop-scan-init : goal.loop-scan-init
loop-scan-init g c = record {
  room = omega arith;
  taken = no_pairs c.args.in_time (ahead c.args.scan.now) c.args.tally.now c.args.order.now;
  same = refl;
  spends = spends_none c.args.steps.now (ahead c.args.scan.now);
}

pub loop-scan-preserved : goal.loop-scan-preserved
loop-scan-preserved g c =
    let kept = c.loop-scan.invariant in
    let read = c.in-Some.ensures.read in
    let number = numeral_in c.pair.new.scan.text c.in-Some.pair.0 in
    let adds : (counts : List Count) → Tallies c.loop-scan.tally counts
    → Tallies c.add.new.self (counts ++ count_with number c.in-Some.pair.1 ∷ []) =
    subst (λ (text : List ℕ). (counts : List Count) → Tallies c.loop-scan.tally counts
    → Tallies c.add.new.self (counts ++ count_with (numeral_in text c.in-Some.pair.0) c.in-Some.pair.1 ∷ [])) c.text.ensures
    c.add.ensures.tallied in
    record {
      room = omega (arith, c.in-Some.ensures.shorter, c.add.ensures.adds, kept.room);
      taken = one_more_pair c.args.in_time (ahead c.args.scan.now) (ahead c.loop-scan.scan)
          (ahead c.pair.new.scan) c.args.tally.now c.loop-scan.tally c.add.new.self
          c.args.order.now c.loop-scan.order c.take.new.self (count_with number c.in-Some.pair.1) kept.taken (sym read) adds
          (λ counts. c.take.ensures c.args.in_time counts (count_with number c.in-Some.pair.1) refl);
      same = c.pair.ensures.same ∙ kept.same;
      spends = spends_more _ _ _ _ _ _ kept.spends (spends_again c.loop-scan.steps (ahead c.loop-scan.scan) c.pair.new.steps c.add.new.steps
          (ahead c.pair.new.scan) c.pair.ensures.ticks c.add.ensures.least (omega (arith, c.in-Some.ensures.shorter, c.add.ensures.most)));
    }
