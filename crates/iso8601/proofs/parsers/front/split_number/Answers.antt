-- Answers to the goals of `parsers::front::split_number`.
use Rattle.std.proofs.Common.{◌+◌, ◌*◌, ◌^◌, ◌≤◌, length, sym, ap, inl, arith}
use Rattle.scan_core.specs.Fronts.{front_digits}
use Rattle.iso8601.proofs.NumberFacts.{no_front, number_beyond, number_missing, number_read}
use Rattle.iso8601.proofs.parsers.front.split_number.Goals as goal

pub returns-in_err-number-clause-number : goal.returns-in_err-number-clause-number
returns-in_err-number-clause-number c =
    rw c.from_residual.ensures (sym (number_missing (front_digits c.args.bytes.now)
    (inl (ap length (no_front c.args.bytes.now c.in_err-number.ensures.none)))))

pub returns-in_err-checked_mul-clause-number : goal.returns-in_err-checked_mul-clause-number
returns-in_err-checked_mul-clause-number c =
    let digit = c.in-Some.ensures.some in
    let great : 2 ^ 32 ≤ c.loop-digit.number * 10 = grind arith in
    rw c.from_residual-in_err-checked_mul.ensures (sym (number_beyond c.loop-digit.number c.in-Some.digit c.args.bytes.now
    c.loop-digit.rest.now c.in-Some.behind.now c.loop-digit.invariant.number digit.0 digit.1 (omega arith)))

pub returns-in_err-number-2-clause-number : goal.returns-in_err-number-2-clause-number
returns-in_err-number-2-clause-number c =
    let digit = c.in-Some.ensures.some in
    let great : 2 ^ 32 ≤ c.loop-digit.number * 10 + c.in-Some.digit = grind arith in
    rw c.from_residual-in_err-number-2.ensures (sym (number_beyond c.loop-digit.number c.in-Some.digit c.args.bytes.now
    c.loop-digit.rest.now c.in-Some.behind.now c.loop-digit.invariant.number digit.0 digit.1 great))

pub returns-clause-number : goal.returns-clause-number
returns-clause-number c =
    let so_far = c.loop-digit.invariant in
    sym (number_read c.loop-digit.number c.args.bytes.now c.loop-digit.rest.now so_far.some so_far.number so_far.fits
    c.in_default.ensures.none)
