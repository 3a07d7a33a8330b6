-- Answers to the goals of `read::next_item`.
use Rattle.std.proofs.Common.{◌≡◌, ◌≢◌, ◌<◌, ◌∙◌, true, false, length, sym, ap, rules, arith}
use Rattle.std.specs.Char.{is_ascii_digit as is_digit}
use Rattle.std.proofs.lemmas.Bool.Decides.{nat_tests}
use Rattle.fancy_duration.specs.inside.Reading.{item_at, unit_front}
use Rattle.fancy_duration.proofs.Fronts.{length-after_digits, length-unit_behind, passes_other, passes_digits, finds_item, items_of-nothing}
use Rattle.fancy_duration.proofs.read.next_item.Goals as goal

pub returns-then-not-is_empty-clause-found : goal.returns-then-not-is_empty-clause-found
returns-then-not-is_empty-clause-found c =
    let digit : is_digit c.in-Some.first.now ≡ true = search rules in
    let some : length c.split_unit.result.0.now ≢ 0 = grind (arith, nat_tests) in
    let found = finds_item _ _ _ _ _ _ c.in-Some.ensures.cases.0 digit c.split_number-number.ensures.rest c.split_unit.ensures.unit
    c.split_unit.ensures.rest some in (
      item_at c.loop-first.rest.now,
      sym c.loop-first.invariant.items ∙ found,
      c.split_number-number.ensures.number,
      c.split_unit.ensures.unit ∙ ap unit_front c.split_number-number.ensures.rest,
    )

pub returns-then-not-is_empty-clause-shorter : goal.returns-then-not-is_empty-clause-shorter
returns-then-not-is_empty-clause-shorter c =
    let digit : is_digit c.in-Some.first.now ≡ true = search rules in
    let shorter : length c.split_number-number.result.1.now < length c.loop-first.rest.now = length-after_digits _ _ _ _
    c.in-Some.ensures.cases.0 digit c.split_number-number.ensures.rest in
    omega (arith, length-unit_behind c.split_number-number.result.1.now, ap length c.split_unit.ensures.rest)

pub loop-first-smaller-then-is_ascii_digit : goal.loop-first-smaller-then-is_ascii_digit
loop-first-smaller-then-is_ascii_digit c =
    let digit : is_digit c.in-Some.first.now ≡ true = search rules in
    length-after_digits _ _ _ _ c.in-Some.ensures.cases.0 digit c.split_number-number.ensures.rest

pub loop-first-preserved-then-is_ascii_digit : goal.loop-first-preserved-then-is_ascii_digit
loop-first-preserved-then-is_ascii_digit c =
    let digit : is_digit c.in-Some.first.now ≡ true = search rules in
    let none : length c.split_unit.result.0.now ≡ 0 = grind (arith, nat_tests) in
    let passed = passes_digits _ _ _ _ _ c.in-Some.ensures.cases.0 digit c.split_number-number.ensures.rest c.split_unit.ensures.unit none
    in
    let shorter : length c.split_number-number.result.1.now < length c.loop-first.rest.now = length-after_digits _ _ _ _
    c.in-Some.ensures.cases.0 digit c.split_number-number.ensures.rest in
    record { items = sym passed ∙ c.loop-first.invariant.items; shorter = omega arith }

pub loop-first-preserved : goal.loop-first-preserved
loop-first-preserved c =
    let other : is_digit c.in-Some.first.now ≡ false = search rules in
    let passed = passes_other _ _ _ c.in-Some.ensures.cases.0 other in
    record { items = sym passed ∙ c.loop-first.invariant.items; shorter = omega (arith, c.in-Some.ensures.cases.1) }

pub returns-clause-none : goal.returns-clause-none
returns-clause-none c = sym c.loop-first.invariant.items ∙ items_of-nothing c.loop-first.rest.now c.in_default.ensures.cases
