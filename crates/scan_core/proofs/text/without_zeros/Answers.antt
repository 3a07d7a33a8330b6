-- Answers to the goals of `text::without_zeros`.
use Rattle.std.proofs.Common.{◌-◌, ◌/◌, sym, ◌∙◌, arith}
use Rattle.scan_core.proofs.PaddedFacts.{length-padded}
use Rattle.scan_core.proofs.TrimmedFacts.{kept, zero_dropped}
use Rattle.scan_core.proofs.text.without_zeros.Goals as goal

pub loop-left-preserved : goal.loop-left-preserved
loop-left-preserved c =
    let i = c.loop-left.invariant in
    let places = c.loop-left.places in
    let left = c.loop-left.left in
    let dropped = zero_dropped places left i.some (omega (arith, c.loop-left.auto.left-fits)) c.loop-left-test.true in
    let next = c.saturating_sub-places.ensures in
    record {
      some = omega (arith, i.some, c.loop-left-test.true);
      width = omega (arith, next, i.width);
      trimmed = i.trimmed ∙ rw next dropped.0;
      len = omega (arith, next, i.len, dropped.1, length-padded places left, length-padded (places - 1) (left / 10));
    }

pub returns-clause-trimmed : goal.returns-clause-trimmed
returns-clause-trimmed c =
    sym (c.loop-left.invariant.trimmed ∙ kept c.loop-left.places c.loop-left.left
    (omega (arith, c.loop-left.auto.left-fits)) c.loop-left-test.false)
