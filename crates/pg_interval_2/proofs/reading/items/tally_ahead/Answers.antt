-- Answers to the goals of `reading::items::tally_ahead`.
use Rattle.std.proofs.Common.{◌≡◌, ℕ, ◌-◌, List, ap, arith, length, length-drop, ◌∙◌}
use Rattle.std.proofs.lemmas.Bool.{false≢true}
use Rattle.scan_core.specs.Scanning.{ahead}
use Rattle.scan_core.proofs.Spending.{spends_more, spends_scan}
use Rattle.pg_interval_2.specs.inside.NameSets.{names_in}
use Rattle.pg_interval_2.proofs.ItemEnds.{bad_next, name_within, text_unspelled}
use Rattle.pg_interval_2.proofs.ItemSteps.{after-le, none_taken, one_taken, taken_shorter}
use Rattle.pg_interval_2.proofs.UnitNameFacts.{set_names}
use Rattle.pg_interval_2.proofs.reading.items.tally_ahead.Goals as goal

pub loop-names-init : goal.loop-names-init
loop-names-init g c =
    let rest = c.blanks.ensures.rest in
    let shorter = ap (λ (l : List ℕ). length l) rest in
    let le = after-le (ahead c.args.scan.now) in
    record {
      room = omega (arith, shorter, le, c.new-counted.ensures.adds);
      taken = rw rest (none_taken (names_in c.args.names) c.args.turned
          (ahead c.args.scan.now) c.new-counted.result c.new-counted.ensures.counted);
      same = c.blanks.ensures.passed.same;
      spends = spends_scan c.args.steps.now (ahead c.args.scan.now) c.blanks.new.steps (ahead c.blanks.new.self) c.blanks.ensures.ticks
          (omega (arith, shorter, le));
    }

pub loop-names-smaller : goal.loop-names-smaller
loop-names-smaller g c =
    let before = c.loop-names.invariant.taken in
    let rest = c.blanks-in-Taken.ensures.rest in
    rw rest (taken_shorter (names_in c.args.names) c.args.turned (ahead c.loop-names.scan)
    (ahead c.take_item.new.scan) before.counts c.take_item.new.self (c.in-Taken.ensures.step before.counts before.counted))

pub loop-names-preserved : goal.loop-names-preserved
loop-names-preserved g c =
    let kept = c.loop-names.invariant in
    let before = kept.taken in
    let rest = c.blanks-in-Taken.ensures.rest in
    let shorter = ap (λ (l : List ℕ). length l) rest in
    let le = after-le (ahead c.take_item.new.scan) in
    let blanks = spends_scan c.take_item.new.steps (ahead c.take_item.new.scan) c.blanks-in-Taken.new.steps
    (ahead c.blanks-in-Taken.new.self) c.blanks-in-Taken.ensures.ticks (omega (arith, shorter, le)) in
    record {
      room = omega (arith, shorter, le, c.in-Taken.ensures.room, kept.room);
      taken = rw rest (one_taken (names_in c.args.names) c.args.turned (ahead c.args.scan.now) (ahead c.loop-names.scan)
          (ahead c.take_item.new.scan) c.loop-names.counted c.take_item.new.self before
          (λ none. false≢true (c.loop-names-test.ensures.1 none)) (c.in-Taken.ensures.step before.counts before.counted));
      same = c.blanks-in-Taken.ensures.passed.same ∙ c.take_item.ensures.same ∙ kept.same;
      spends = spends_more _ _ _ _ _ _ kept.spends (spends_more _ _ _ _ _ _ c.take_item.ensures.spends blanks);
    }

pub returns-in-BadName-clause-err : goal.returns-in-BadName-clause-err
returns-in-BadName-clause-err g c =
    let bytes = ahead c.args.scan.now in
    let after = ahead c.take_item.new.scan in
    let before = c.loop-names.invariant.taken in
    let step = c.in-BadName.ensures.step before.counts before.counted in
    let bad = bad_next (names_in c.args.names) c.args.turned bytes
    (ahead c.loop-names.scan) step.letters after c.loop-names.counted step.number before
    (λ none. false≢true (c.loop-names-test.ensures.1 none)) step.read step.bad in
    let text : length c.take_item.new.scan.text ≡ length c.args.scan.now.text = ap (λ (l : List ℕ). length l)
    (c.take_item.ensures.same ∙ c.loop-names.invariant.same) in
    let long = length-drop c.args.scan.now.at c.args.scan.now.text in
    let within = name_within (names_in c.args.names) c.args.turned bytes
    (ahead c.loop-names.scan) step.letters after c.loop-names.counted step.number before step.read in (
      length bytes - length after - length step.letters,
      length bytes - length after,
      bad,
      omega (arith, text, long, within, step.starts, step.ends),
      omega (arith, text, long, within, step.ends),
    )

pub returns-in-NoItem-clause-err : goal.returns-in-NoItem-clause-err
returns-in-NoItem-clause-err g c =
    let before = c.loop-names.invariant.taken in
    text_unspelled (names_in c.args.names) (set_names c.args.names) c.args.turned (ahead c.args.scan.now)
    (ahead c.loop-names.scan) c.loop-names.counted before
    (λ none. false≢true (c.loop-names-test.ensures.1 none)) (c.in-NoItem.ensures.step before.counts before.counted)
