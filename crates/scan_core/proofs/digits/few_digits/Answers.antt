-- Answers to the goals of `digits::few_digits`.
use Rattle.std.proofs.Common.{◌+◌, arith}
use Rattle.std.proofs.Math.Nat.{pow-le-pow_right}
use Rattle.scan_core.proofs.DigitFacts.{digit_is, number_of-lt, number_of-take-le, number_of_more}
use Rattle.scan_core.proofs.digits.few_digits.Goals as goal

-- the digits so far, and one more, are a front of all
pub overflow_mul-value : goal.overflow_mul-value
overflow_mul-value c =
    let ds = c.args.digits.now in
    let digit = digit_is ds c.loop-digit.digit-index c.requires.digits c.loop-digit-test.true in
    let more = number_of_more ds c.loop-digit.digit-index c.requires.digits c.loop-digit-test.true in
    let front = number_of-take-le ds (c.loop-digit.digit-index + 1) in
    let few = number_of-lt ds c.requires.digits in
    let power = pow-le-pow_right {n = 10} (omega arith) c.requires.few in
    record { fits = omega arith }

pub overflow_sub-digit : goal.overflow_sub-digit
overflow_sub-digit c = omega (arith, digit_is c.args.digits.now c.loop-digit.digit-index c.requires.digits c.loop-digit-test.true)

pub overflow_add-value : goal.overflow_add-value
overflow_add-value c =
    let ds = c.args.digits.now in
    let digit = digit_is ds c.loop-digit.digit-index c.requires.digits c.loop-digit-test.true in
    let more = number_of_more ds c.loop-digit.digit-index c.requires.digits c.loop-digit-test.true in
    let front = number_of-take-le ds (c.loop-digit.digit-index + 1) in
    let few = number_of-lt ds c.requires.digits in
    let power = pow-le-pow_right {n = 10} (omega arith) c.requires.few in
    record { fits = omega arith }

pub loop-digit-preserved : goal.loop-digit-preserved
loop-digit-preserved c =
    let digit = digit_is c.args.digits.now c.loop-digit.digit-index c.requires.digits c.loop-digit-test.true in
    let more = number_of_more c.args.digits.now c.loop-digit.digit-index c.requires.digits c.loop-digit-test.true in
    record { number = omega arith }
