-- Answers to the goals of `scanned::scanned_fraction`.
use Rattle.std.proofs.Common.{◌≡◌, arith, sym, ◌∙◌}
use Rattle.scan_core.proofs.RoundingFacts.{rounded-le, rounded_none, rounded_is}
use Rattle.scan_core.proofs.RunFacts.{run_length, run_exact}
use Rattle.scan_core.proofs.scanned.scanned_fraction.Goals as goal

pub short_fraction-requires-clause-number : goal.short_fraction-requires-clause-number
short_fraction-requires-clause-number g c = (run_exact c.args.text.now c.args.fraction c.requires.fraction (omega arith)).1

pub returns-then-digits-eq0-clause-value : goal.returns-then-digits-eq0-clause-value
returns-then-digits-eq0-clause-value g c = rounded_none c.args.scale _
    (run_length c.args.text.now c.args.fraction c.requires.fraction ∙ omega arith)

pub returns-then-digits-le12-clause-value : goal.returns-then-digits-le12-clause-value
returns-then-digits-le12-clause-value g c =
    let exact = run_exact c.args.text.now c.args.fraction c.requires.fraction (omega arith) in
    c.short_fraction.ensures ∙ rounded_is c.args.scale _ _ _ (sym exact.0) (run_length c.args.text.now c.args.fraction c.requires.fraction)

pub returns-then-digits-le12-clause-small : goal.returns-then-digits-le12-clause-small
returns-then-digits-le12-clause-small g c =
    let exact = run_exact c.args.text.now c.args.fraction c.requires.fraction (omega arith) in
    let value = c.short_fraction.ensures ∙ rounded_is c.args.scale _ _ _ (sym exact.0)
    (run_length c.args.text.now c.args.fraction c.requires.fraction) in
    rw value (rounded-le c.args.scale _ c.requires.fraction.digits)

pub millionths-requires-clause-number : goal.millionths-requires-clause-number
millionths-requires-clause-number g c = (run_exact c.args.text.now c.args.fraction c.requires.fraction (omega arith)).1

pub returns-then-scale-eq1000000-clause-value : goal.returns-then-scale-eq1000000-clause-value
returns-then-scale-eq1000000-clause-value g c =
    let exact = run_exact c.args.text.now c.args.fraction c.requires.fraction (omega arith) in
    let scale : c.args.scale ≡ 1_000_000 = omega arith in
    rw scale (c.millionths.ensures ∙ rounded_is 1_000_000 _ _ _ (sym exact.0)
    (run_length c.args.text.now c.args.fraction c.requires.fraction))

pub returns-then-scale-eq1000000-clause-small : goal.returns-then-scale-eq1000000-clause-small
returns-then-scale-eq1000000-clause-small g c =
    let exact = run_exact c.args.text.now c.args.fraction c.requires.fraction (omega arith) in
    let scale : c.args.scale ≡ 1_000_000 = omega arith in
    let value = c.millionths.ensures ∙ rounded_is 1_000_000 _ _ _ (sym exact.0)
    (run_length c.args.text.now c.args.fraction c.requires.fraction) in
    rw (scale, value) (rounded-le 1_000_000 _ c.requires.fraction.digits)
