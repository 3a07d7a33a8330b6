-- Answers to the goals of `digits::field_digits`.
use Rattle.std.proofs.Common.{◌≡◌, true, false, ◌+◌, ap, sym, ◌∙◌, subst, refl, arith}
use Rattle.std.proofs.lemmas.Int.Digits.{digits_value_more}
use Rattle.std.proofs.lemmas.List.{take_all}
use Rattle.std.proofs.lemmas.Str.Parse.{digit_at}
use Rattle.scan_core.specs.Digits.{AreDigits, number_of}
use Rattle.scan_core.proofs.DigitFacts.{digits_more, number_of_few}
use Rattle.scan_core.proofs.digits.field_digits.Goals as goal

-- no byte that isn't a digit stands among digits
pub returns-then-digit-gt9-clause-found : goal.returns-then-digit-gt9-clause-found
returns-then-digit-gt9-clause-found c = (
  λ some. let never : false ≡ true = some in cc,
  λ is.
      let range = digit_at c.args.bytes.now c.loop-byte.byte-index is c.loop-byte-test.true in
      let small = c.digit_of-digit.ensures.other range in
      absurd (omega (arith, small, c.if-digit-gt9.true)),
)

pub overflow_mul-value : goal.overflow_mul-value
overflow_mul-value c =
    let few = number_of_few c.loop-byte.byte-index c.args.bytes.now c.loop-byte.invariant.digits
    (omega (arith, c.loop-byte-test.true, c.requires)) in
    omega (arith, few, c.loop-byte.invariant.number)

pub overflow_add-value : goal.overflow_add-value
overflow_add-value c =
    let few = number_of_few c.loop-byte.byte-index c.args.bytes.now c.loop-byte.invariant.digits
    (omega (arith, c.loop-byte-test.true, c.requires)) in
    omega (arith, few, c.loop-byte.invariant.number, c.if-digit-gt9.false)

pub loop-byte-preserved : goal.loop-byte-preserved
loop-byte-preserved c =
    let digit = c.digit_of-digit.ensures.digit (omega (arith, c.if-digit-gt9.false)) in
    let more = digits_value_more 10 c.args.bytes.now c.loop-byte.byte-index c.loop-byte-test.true in
    record {
      digits = digits_more c.loop-byte.byte-index c.args.bytes.now c.loop-byte.invariant.digits digit.0;
      number = omega (arith, more, digit.1, c.loop-byte.invariant.number);
    }

pub returns-clause-found : goal.returns-clause-found
returns-clause-found c =
    let all = take_all c.loop-byte.byte-index c.args.bytes.now c.loop-byte-test.false in
    (λ some. subst AreDigits all c.loop-byte.invariant.digits, λ is. refl)

pub returns-clause-value : goal.returns-clause-value
returns-clause-value c =
    c.loop-byte.invariant.number ∙ ap number_of (take_all c.loop-byte.byte-index c.args.bytes.now c.loop-byte-test.false)
