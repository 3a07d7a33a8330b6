-- Answers to the goals of `spaced::word_at`.
use Rattle.std.proofs.Common.{◌≡◌, ◌+◌, ◌^◌, ◌<◌, ◌≤◌, ◌++◌, ℕ, List, length, refl, sym, ◌∙◌, ap, subst, length-append}
use Rattle.std.proofs.Common.{length-drop, rules, arith}
use Rattle.std.proofs.lemmas.List.{length-take-le}
use Rattle.std.proofs.lemmas.Bool.Decides.{nat_tests}
use Rattle.text_lines.specs.Spaced.{IsWord}
use Rattle.text_lines.proofs.SpacedPlaces.{leads_on, comes_on, dropped_so, taken_gap, no_word}
use Rattle.text_lines.proofs.spaced.word_at.Goals as goal

pub loop-gap-init : goal.loop-gap-init
loop-gap-init c = record {
  within = omega arith;
  rest = refl;
  leads = λ before text after h. h;
  comes = λ before text after h. (before, h);
}

pub loop-gap-preserved : goal.loop-gap-preserved
loop-gap-preserved c =
    let some : 0 < c.loop-gap.left = grind (arith, nat_tests) in
    let first = c.in-Some.ensures.found in
    let i = c.loop-gap.invariant in
    let sizes = ap length (sym i.rest ∙ first.joined) in
    let one = length-append c.in-Some.gap.now (c.in-Some.word.now ++ c.in-Some.after.now) in
    let two = length-append c.in-Some.word.now c.in-Some.after.now in
    let left = length-drop c.loop-gap.at c.args.line.now in
    record {
      within = omega (arith, sizes, one, two, left, i.within);
      rest = dropped_so c.loop-gap.at c.args.line.now c.loop-gap.rest.now c.in-Some.gap.now c.in-Some.word.now c.in-Some.after.now i.rest
          first;
      leads = leads_on c.args.number c.loop-gap.at c.loop-gap.left c.args.line.now c.loop-gap.rest.now c.in-Some.gap.now c.in-Some.word.now
          c.in-Some.after.now i.leads some i.rest first;
      comes = comes_on c.args.number c.loop-gap.left c.args.line.now c.loop-gap.rest.now c.in-Some.gap.now c.in-Some.word.now
          c.in-Some.after.now i.comes some first;
    }

pub slice_bounds-result-end : goal.slice_bounds-result-end
slice_bounds-result-end c =
    let first = c.in-Some.ensures.found in
    let i = c.loop-gap.invariant in
    let sizes = ap length (sym i.rest ∙ first.joined) in
    let one = length-append c.in-Some.gap.now (c.in-Some.word.now ++ c.in-Some.after.now) in
    let left = length-drop c.loop-gap.at c.args.line.now in
    sym (length-take-le (c.loop-gap.at + length c.in-Some.gap.now) c.args.line.now (omega (arith, sizes, one, left, i.within)))

pub returns-then-left-eq0-clause-found : goal.returns-then-left-eq0-clause-found
returns-then-left-eq0-clause-found c =
    let first = c.in-Some.ensures.found in
    let i = c.loop-gap.invariant in
    let none : c.loop-gap.left ≡ 0 = grind (arith, nat_tests) in
    let here : IsWord c.loop-gap.left c.loop-gap.rest.now c.in-Some.gap.now c.in-Some.word.now c.in-Some.after.now = subst
    (λ (k : ℕ). IsWord k c.loop-gap.rest.now c.in-Some.gap.now c.in-Some.word.now c.in-Some.after.now) (sym none) first in
    subst (λ (l : List ℕ). IsWord c.args.number c.args.line.now l c.in-Some.word.now c.in-Some.after.now)
    (sym (taken_gap c.loop-gap.at c.args.line.now c.loop-gap.rest.now c.in-Some.gap.now c.in-Some.word.now c.in-Some.after.now i.rest
    first)) (i.leads c.in-Some.gap.now c.in-Some.word.now c.in-Some.after.now here)

pub overflow_add-at-in-Some : goal.overflow_add-at-in-Some
overflow_add-at-in-Some c =
    let first = c.in-Some.ensures.found in
    let i = c.loop-gap.invariant in
    let sizes = ap length (sym i.rest ∙ first.joined) in
    let one = length-append c.in-Some.gap.now (c.in-Some.word.now ++ c.in-Some.after.now) in
    let two = length-append c.in-Some.word.now c.in-Some.after.now in
    let left = length-drop c.loop-gap.at c.args.line.now in
    let within : c.loop-gap.at + (length c.in-Some.gap.now + length c.in-Some.word.now)
    ≤ length c.args.line.now = omega (arith, sizes, one, two, left, i.within) in
    let small : length c.args.line.now < 2 ^ 64 = search rules in
    omega (arith, within, small)

pub returns-clause-none : goal.returns-clause-none
returns-clause-none c = λ before text after h.
    let k = c.loop-gap.invariant.comes before text after h in
    no_word c.loop-gap.left c.loop-gap.rest.now k.0 text after c.in_default.ensures.none k.1
