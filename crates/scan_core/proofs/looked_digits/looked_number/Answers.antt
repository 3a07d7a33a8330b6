-- Answers to the goals of `looked_digits::looked_number`.
use Rattle.std.proofs.Common.{ℕ, ◌^◌, ap, arith, get_or, inl, subst, sym, ◌∙◌}
use Rattle.scan_core.specs.Digits.{number_of}
use Rattle.scan_core.specs.Runs.{Knows}
use Rattle.scan_core.specs.Scanning.{between}
use Rattle.scan_core.proofs.Between.{between_none, between_push, digit_between}
use Rattle.scan_core.proofs.DigitFacts.{test_from_digit}
use Rattle.scan_core.proofs.RunFacts.{number_of_push}
use Rattle.scan_core.proofs.looked_digits.looked_number.Goals as goal

pub loop-at-init : goal.loop-at-init
loop-at-init g c = record { value = inl (sym (ap number_of (between_none c.args.text.now c.args.start))); ticks = omega arith }

pub with_digit-value-requires : goal.with_digit-value-requires
with_digit-value-requires g c =
    let byte = c.look.ensures.byte in
    let digit = digit_between c.args.text.now c.args.start c.loop-at.at c.args.end (omega arith)
    (omega arith) c.requires.within c.requires.digits in
    rw byte (test_from_digit (get_or c.args.text.now c.loop-at.at 0) digit)

pub loop-at-preserved : goal.loop-at-preserved
loop-at-preserved g c =
    let byte = c.look.ensures.byte in
    let digit = digit_between c.args.text.now c.args.start c.loop-at.at c.args.end (omega arith)
    (omega arith) c.requires.within c.requires.digits in
    let d = get_or c.args.text.now c.loop-at.at 0 in
    let more = ap number_of (between_push c.args.text.now c.args.start c.loop-at.at (omega arith) (omega arith))
    ∙ number_of_push (between c.args.start c.loop-at.at c.args.text.now) d (test_from_digit d digit) in
    record {
      value = subst (λ (n : ℕ). Knows (10 ^ 18) c.with_digit-value.result n) (sym more)
          (rw byte at (c.with_digit-value.ensures _ c.loop-at.invariant.value));
      ticks = omega (arith, c.look.ensures.tick, c.loop-at.invariant.ticks);
    }
