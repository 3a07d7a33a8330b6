-- Answers to the goals of `digits::many_digits`.
use Rattle.std.proofs.Common.{◌+◌, ap, arith}
use Rattle.std.proofs.lemmas.List.{take_all}
use Rattle.scan_core.specs.Digits.{number_of}
use Rattle.scan_core.proofs.DigitFacts.{digit_is, number_of_more, number_of-take-le}
use Rattle.scan_core.proofs.digits.many_digits.Goals as goal

-- the digits so far, and one more, are a front of all
pub returns-in_err-checked_mul-clause-fits : goal.returns-in_err-checked_mul-clause-fits
returns-in_err-checked_mul-clause-fits c =
    let digit = digit_is c.args.digits.now c.loop-digit.digit-index c.requires c.loop-digit-test.true in
    let more = number_of_more c.args.digits.now c.loop-digit.digit-index c.requires c.loop-digit-test.true in
    let front = number_of-take-le c.args.digits.now (c.loop-digit.digit-index + 1) in
    rw c.from_residual.ensures (grind arith)

pub overflow_sub-digit : goal.overflow_sub-digit
overflow_sub-digit c = omega (arith, digit_is c.args.digits.now c.loop-digit.digit-index c.requires c.loop-digit-test.true)

pub returns-in_err-value-clause-fits : goal.returns-in_err-value-clause-fits
returns-in_err-value-clause-fits c =
    let more = number_of_more c.args.digits.now c.loop-digit.digit-index c.requires c.loop-digit-test.true in
    let front = number_of-take-le c.args.digits.now (c.loop-digit.digit-index + 1) in
    rw c.from_residual-in_err-value.ensures (grind arith)

pub loop-digit-preserved : goal.loop-digit-preserved
loop-digit-preserved c =
    let digit = digit_is c.args.digits.now c.loop-digit.digit-index c.requires c.loop-digit-test.true in
    let more = number_of_more c.args.digits.now c.loop-digit.digit-index c.requires c.loop-digit-test.true in
    record { number = omega arith; fits = omega arith }

pub returns-clause-fits : goal.returns-clause-fits
returns-clause-fits c =
    let all = ap number_of (take_all c.loop-digit.digit-index c.args.digits.now c.loop-digit-test.false) in
    grind arith
