-- Answers to the goals of `fields::field_start`.
use Rattle.std.proofs.Common.{ℕ, List, ◌-◌, ◌<◌, drop, subst, arith}
use Rattle.std.proofs.lemmas.List.{take_rest}
use Rattle.std.proofs.lemmas.Bool.Decides.{nat_tests}
use Rattle.whole_input.specs.Parts.{HasNo, IsSplitAt}
use Rattle.text_lines.proofs.FieldPlaces.{StillTabbed, none_left, still_less, tabbed_more, behind_field, field_within}
use Rattle.text_lines.proofs.fields.field_start.Goals as goal

pub returns-in_err-field-clause-none : goal.returns-in_err-field-clause-none
returns-in_err-field-clause-none c =
    let some : 0 < c.loop-left.left = grind (arith, nat_tests) in
    let free : HasNo 9 (drop c.loop-left.at c.args.line.now) = rw take_rest at c.in_err-field.ensures.none in
    rw c.from_residual.ensures (λ before rest tabbed same.
    let h = c.loop-left.invariant.still before rest tabbed same in
    none_left c.loop-left.left (drop c.loop-left.at c.args.line.now) h.0 rest some free h.1 h.2)

pub loop-left-preserved : goal.loop-left-preserved
loop-left-preserved c =
    let some : 0 < c.loop-left.left = grind (arith, nat_tests) in
    let line = c.args.line.now in
    let field = c.in_ok-field.field.now in
    let back = c.in_ok-field.field-0-1.now in
    let rest = drop c.loop-left.at line in
    let found : IsSplitAt 9 rest field back = rw take_rest at c.in_ok-field.ensures.found in
    let behind = behind_field c.loop-left.at line field back found in
    record {
      within = field_within c.loop-left.at line field back c.loop-left.invariant.within found;
      most = omega (arith, c.loop-left.invariant.most);
      tabbed = tabbed_more c.args.number c.loop-left.left c.loop-left.at line field back some c.loop-left.invariant.most
          c.loop-left.invariant.tabbed found;
      still = subst (λ (l : List ℕ). StillTabbed c.args.number line (c.loop-left.left - 1) l) behind
          (still_less c.args.number c.loop-left.left line rest field back some c.loop-left.invariant.still found);
    }
