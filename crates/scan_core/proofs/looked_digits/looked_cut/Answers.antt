-- Answers to the goals of `looked_digits::looked_cut`.
use Rattle.std.proofs.Common.{List, ℕ, ◌≡◌, ◌+◌, ◌*◌, ◌-◌, ◌/◌, ◌^◌, ap, ap₂, arith, get_or, length, sym, ◌∙◌}
use Rattle.std.specs.Char.{digit_value}
use Rattle.scan_core.specs.Digits.{number_of}
use Rattle.scan_core.specs.Scanning.{between}
use Rattle.scan_core.proofs.Between.{between_before, digit_between, digits_behind}
use Rattle.scan_core.proofs.RoundingFacts.{cut-cons, cut-le}
use Rattle.scan_core.proofs.looked_digits.looked_cut.Goals as goal

pub weighed_digit-carry-requires-clause-digit : goal.weighed_digit-carry-requires-clause-digit
weighed_digit-carry-requires-clause-digit g c =
    let byte = c.look.ensures.byte in
    rw byte (digit_between c.args.text.now c.args.start (c.loop-at.at - 1) c.args.end (omega arith)
    (omega arith) c.requires.within c.requires.digits)

pub weighed_digit-carry-requires-clause-carry : goal.weighed_digit-carry-requires-clause-carry
weighed_digit-carry-requires-clause-carry g c =
    let carry = c.loop-at.invariant.carry in
    rw carry (cut-le c.args.scale _ (digits_behind c.args.text.now c.args.start c.loop-at.at c.args.end c.loop-at.invariant.order
    c.loop-at.invariant.within c.requires.digits))

pub loop-at-preserved : goal.loop-at-preserved
loop-at-preserved g c =
    let d = get_or c.args.text.now (c.loop-at.at - 1) 0 in
    let front = between_before c.args.text.now c.loop-at.at c.args.end (omega arith) c.loop-at.invariant.within c.requires.within in
    let weighed : c.weighed_digit-carry.result ≡ digit_value d * c.args.scale
    + number_of (between c.loop-at.at c.args.end c.args.text.now) * c.args.scale / 10 ^ length
    (between c.loop-at.at c.args.end c.args.text.now) = c.weighed_digit-carry.ensures.value
    ∙ ap₂ (λ (b k : ℕ). digit_value b * c.args.scale + k) c.look.ensures.byte c.loop-at.invariant.carry in
    record {
      order = omega arith;
      within = omega (arith, c.loop-at.invariant.within);
      carry = ap (λ (x : ℕ). x / 10) weighed
          ∙ sym (cut-cons c.args.scale d (between c.loop-at.at c.args.end c.args.text.now))
          ∙ ap (λ (l : List ℕ). number_of l * c.args.scale / 10 ^ length l) (sym front);
      ticks = omega (arith, c.look.ensures.tick, c.loop-at.invariant.ticks, c.loop-at.invariant.within);
    }
