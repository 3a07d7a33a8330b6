-- Answers to the goals of `text::numeral`.
use Rattle.std.proofs.Common.{◌≡◌, ◌<◌, length, arith, sym, subst, ◌∙◌}
use Rattle.std.proofs.lemmas.Bool.Decides.{nat_tests}
use Rattle.std.proofs.lemmas.List.{nil_from_length}
use Rattle.std.specs.Str.Parse.{IsNumeral, without_leading_plus}
use Rattle.scan_core.specs.Fronts.{after_digits, front_digits}
use Rattle.nt_time.proofs.TextLemmas.{no_digits, some_digits, whole_front}
use Rattle.nt_time.proofs.text.numeral.Goals as goal

pub returns-then-is_empty-clause-none : goal.returns-then-is_empty-clause-none
returns-then-is_empty-clause-none c =
    let front = rw c.without_plus.ensures at c.split_digits.ensures.front in
    let none : length (front_digits (without_leading_plus c.args.text.now)) ≡ 0 = rw (← front) (grind (arith, nat_tests)) in
    no_digits _ none

pub returns-then-not-is_empty-clause-none : goal.returns-then-not-is_empty-clause-none
returns-then-not-is_empty-clause-none c has =
    let front = rw c.without_plus.ensures at c.split_digits.ensures.front in
    let rest = rw c.without_plus.ensures at c.split_digits.ensures.rest in
    let some : 0 < length (front_digits (without_leading_plus c.args.text.now)) = rw (← front) (grind (arith, nat_tests)) in
    let none = (some_digits (without_leading_plus c.args.text.now) some).1 has in
    let behind = rw rest at c.is_empty-2.ensures in
    absurd (grind (arith, nat_tests))

pub returns-clause-found : goal.returns-clause-found
returns-clause-found c =
    let text = without_leading_plus c.args.text.now in
    let front = rw c.without_plus.ensures at c.split_digits.ensures.front in
    let rest = rw c.without_plus.ensures at c.split_digits.ensures.rest in
    let some : 0 < length (front_digits text) = rw (← front) (grind (arith, nat_tests)) in
    let behind = rw rest at c.is_empty-2.ensures in
    let none : length (after_digits text) ≡ 0 = grind (arith, nat_tests) in
    let same = front ∙ whole_front text (nil_from_length (after_digits text) none) in
    (subst (IsNumeral 10) (sym same) ((some_digits text some).0 none), same)
