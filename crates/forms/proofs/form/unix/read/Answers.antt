-- Answers to the goals of `form::unix::read`.
use Rattle.std.proofs.Common.{arith}
use Rattle.std.proofs.lemmas.Bool.Decides.{nat_tests}
use Rattle.forms.proofs.UnixTimes.{parts_of, parts_digits, fraction_small, reads_number, reads_no_digit, reads_no_fraction}
use Rattle.forms.proofs.form.unix.read.Goals as goal

pub returns-then-is_empty : goal.returns-then-is_empty
returns-then-is_empty c =
    let empty = c.if-is_empty.ensures in
    let sign = c.split_minus-negative.ensures in
    let digits = c.split_digits.ensures in
    let parts = parts_of c.args.text.now _ _ _ _ sign.minus sign.rest digits.front digits.rest in
    reads_no_digit _ _ _ _ parts (grind (arith, nat_tests))

pub value_of-requires-clause-digits : goal.value_of-requires-clause-digits
value_of-requires-clause-digits c =
    let sign = c.split_minus-negative.ensures in
    let digits = c.split_digits.ensures in
    let parts = parts_of c.args.text.now _ _ _ _ sign.minus sign.rest digits.front digits.rest in
    parts_digits _ _ _ _ parts

pub value_of-requires-clause-fraction : goal.value_of-requires-clause-fraction
value_of-requires-clause-fraction c = let found = c.in-Some.ensures.found in fraction_small found.0 _ _ found.1 found.2

pub returns-in-Some : goal.returns-in-Some
returns-in-Some c =
    let empty = c.if-is_empty.ensures in
    let found = c.in-Some.ensures.found in
    let sign = c.split_minus-negative.ensures in
    let digits = c.split_digits.ensures in
    let parts = parts_of c.args.text.now _ _ _ _ sign.minus sign.rest digits.front digits.rest in
    reads_number _ _ _ _ found.0 _ _ parts (grind (arith, nat_tests)) found.1 found.2 c.value_of.ensures

pub returns-in-None : goal.returns-in-None
returns-in-None c =
    let sign = c.split_minus-negative.ensures in
    let digits = c.split_digits.ensures in
    let parts = parts_of c.args.text.now _ _ _ _ sign.minus sign.rest digits.front digits.rest in
    reads_no_fraction _ _ _ _ parts c.in-None.ensures.none
