-- Answers to the goals of `looked_digits::looked_fraction`.
use Rattle.std.proofs.Common.{ℕ, ◌+◌, ◌*◌, ◌/◌, ap, ap₂, arith, get_or, sym, ◌∙◌}
use Rattle.std.specs.Char.{digit_value}
use Rattle.scan_core.specs.Scanning.{between}
use Rattle.scan_core.specs.Shares.{rounded}
use Rattle.scan_core.proofs.Between.{between_cons, digit_between, digits_behind, length-between}
use Rattle.scan_core.proofs.RoundingFacts.{cut-le, rounded-cons, rounded-le, rounded_none}
use Rattle.scan_core.proofs.looked_digits.looked_fraction.Goals as goal

pub returns-then-start-end-clause-value : goal.returns-then-start-end-clause-value
returns-then-start-end-clause-value g c =
    rounded_none c.args.scale (between c.args.start c.args.end c.args.text.now)
    (length-between c.args.text.now c.args.start c.args.end c.requires.order c.requires.within ∙ omega arith)

pub looked_cut-carry-requires-clause-digits : goal.looked_cut-carry-requires-clause-digits
looked_cut-carry-requires-clause-digits g c = digits_behind c.args.text.now c.args.start (c.args.start + 1) c.args.end (omega arith)
    (omega arith) c.requires.digits

pub weighed_digit-requires-clause-digit : goal.weighed_digit-requires-clause-digit
weighed_digit-requires-clause-digit g c =
    let byte = c.look.ensures.byte in
    rw byte (digit_between c.args.text.now c.args.start c.args.start c.args.end (omega arith)
    (omega arith) c.requires.within c.requires.digits)

pub weighed_digit-requires-clause-carry : goal.weighed_digit-requires-clause-carry
weighed_digit-requires-clause-carry g c =
    let carry = c.looked_cut-carry.ensures.value in
    rw carry (cut-le c.args.scale _ (digits_behind c.args.text.now c.args.start (c.args.start + 1) c.args.end (omega arith)
    (omega arith) c.requires.digits))

pub returns-clause-value : goal.returns-clause-value
returns-clause-value g c =
    let d = get_or c.args.text.now c.args.start 0 in
    let weighed = c.weighed_digit.ensures.value ∙ ap₂ (λ (b k : ℕ). digit_value b * c.args.scale + k) c.look.ensures.byte
    c.looked_cut-carry.ensures.value in
    ap (λ (x : ℕ). (x + 5) / 10) weighed
    ∙ sym (rounded-cons c.args.scale d (between (c.args.start + 1) c.args.end c.args.text.now))
    ∙ ap (rounded c.args.scale) (sym (between_cons c.args.text.now c.args.start c.args.end (omega arith) c.requires.within))

pub returns-clause-small : goal.returns-clause-small
returns-clause-small g c =
    let d = get_or c.args.text.now c.args.start 0 in
    let weighed = c.weighed_digit.ensures.value ∙ ap₂ (λ (b k : ℕ). digit_value b * c.args.scale + k) c.look.ensures.byte
    c.looked_cut-carry.ensures.value in
    let value = ap (λ (x : ℕ). (x + 5) / 10) weighed
    ∙ sym (rounded-cons c.args.scale d (between (c.args.start + 1) c.args.end c.args.text.now))
    ∙ ap (rounded c.args.scale) (sym (between_cons c.args.text.now c.args.start c.args.end (omega arith) c.requires.within)) in
    rw value (rounded-le c.args.scale _ c.requires.digits)
