-- Answers to the goals of `form::unix::nanoseconds`.
use Rattle.std.proofs.Common.{◌≡◌, ◌<◌, length, arith}
use Rattle.std.proofs.lemmas.Bool.Decides.{nat_tests}
use Rattle.scan_core.specs.Digits.{number_of}
use Rattle.forms.proofs.UnixTimes.{not_none, not_more, not_long, front_digits_are, small_number, front_whole, scaled, nine_small}
use Rattle.forms.proofs.form.unix.nanoseconds.Goals as goal

pub returns-then-is_empty-clause-none : goal.returns-then-is_empty-clause-none
returns-then-is_empty-clause-none c =
    let empty = c.if-is_empty.ensures in
    not_none c.args.digits.now _ c.split_digits.ensures.front (grind (arith, nat_tests))

pub returns-then-not-is_empty-clause-none : goal.returns-then-not-is_empty-clause-none
returns-then-not-is_empty-clause-none c =
    let more = c.if-not-is_empty.ensures in
    not_more c.args.digits.now _ c.split_digits.ensures.rest (grind (arith, nat_tests))

pub returns-then-front-gt9-clause-none : goal.returns-then-front-gt9-clause-none
returns-then-front-gt9-clause-none c =
    let long = c.if-front-gt9.true in
    not_long c.args.digits.now _ c.split_digits.ensures.front (grind (arith, nat_tests))

pub digits_u32-requires-clause-digits : goal.digits_u32-requires-clause-digits
digits_u32-requires-clause-digits c = front_digits_are c.args.digits.now _ c.split_digits.ensures.front

pub unwrap-number-requires : goal.unwrap-number-requires
unwrap-number-requires c =
    let short = c.if-front-gt9.false in
    let small = small_number _ (front_digits_are c.args.digits.now _ c.split_digits.ensures.front) (grind (arith, nat_tests)) in
    c.digits_u32.ensures.fits.1 (omega (arith, small))

pub overflow_mul-result : goal.overflow_mul-result
overflow_mul-result c =
    let short = c.if-front-gt9.false in
    let value = c.unwrap-number.ensures in
    let number = c.digits_u32.ensures.value in
    let small = nine_small _ (front_digits_are c.args.digits.now _ c.split_digits.ensures.front) (grind (arith, nat_tests)) in
    let e : c.unwrap-number.result ≡ number_of c.split_digits.result.0.now = rw value at number in
    rw (e, c.scale.ensures, scaled c.split_digits.result.0.now) (omega (arith, small))

pub returns-clause-found : goal.returns-clause-found
returns-clause-found c =
    let some = c.if-is_empty.ensures in
    let none = c.if-not-is_empty.ensures in
    let short = c.if-front-gt9.false in
    let whole = front_whole c.args.digits.now _ _ c.split_digits.ensures.front c.split_digits.ensures.rest (grind (arith, nat_tests)) in
    let value = c.unwrap-number.ensures in
    let number = c.digits_u32.ensures.value in
    let e : c.unwrap-number.result ≡ number_of c.split_digits.result.0.now = rw value at number in
    let digits = front_digits_are c.args.digits.now _ c.split_digits.ensures.front in
    let first : 0 < length c.split_digits.result.0.now = grind (arith, nat_tests) in
    rw (← whole) ((first, short), digits, rw (e, c.scale.ensures) (scaled c.split_digits.result.0.now))
