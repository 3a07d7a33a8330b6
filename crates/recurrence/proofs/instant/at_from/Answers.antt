-- Answers to the goals of `instant::at_from`.
use Rattle.std.proofs.Common.{◌∙◌, ap, sym, subst, refl, true≢false, FitsSigned, arith}
use Rattle.std.specs.Int.{w128}
use Rattle.std.proofs.lemmas.Int.{ints}
use Rattle.std.proofs.Math.Facts.{to_z-of_z}
use Rattle.jiff_core.specs.Calendar.{IsYear}
use Rattle.jiff_span.specs.Months.{shifted_year}
use Rattle.recurrence.specs.inside.Steps.{civil_or_none}
use Rattle.recurrence.proofs.Starts.{in_civil_year, no_civil_year, moved_by_parts}
use Rattle.recurrence.proofs.instant.at_from.Goals as goal

pub returns-in-Some : goal.returns-in-Some
returns-in-Some c =
    let mb = c.months_of.ensures.bound in
    let nb = c.nanos_of.ensures.bound in
    let m : FitsSigned w128 c.months_of.result = omega (arith, ints) in
    let n : FitsSigned w128 c.nanos_of.result = omega (arith, ints) in
    let same = moved_by_parts c.args.civil c.args.step c.args.k _ _ _ _ (to_z-of_z m ∙ c.months_of.ensures.value) c.in-Some.ensures.value
    (to_z-of_z n ∙ c.nanos_of.ensures.value) c.moved_from.ensures.value in
    let ib = c.moved_from.ensures.bound in
    let i : FitsSigned w128 c.moved_from.result = omega (arith, ints) in
    let year = subst (λ months. IsYear (shifted_year c.args.civil.date months)) (to_z-of_z m ∙ c.months_of.ensures.value)
    (c.in-Some.ensures.some.0 refl) in
    (c.civil_or_none.ensures ∙ ap civil_or_none (to_z-of_z i ∙ same)) ∙ sym (in_civil_year c.args.civil c.args.step c.args.k year)

pub returns-in-None : goal.returns-in-None
returns-in-None c =
    let mb = c.months_of.ensures.bound in
    let m : FitsSigned w128 c.months_of.result = omega (arith, ints) in
    let same = to_z-of_z m ∙ c.months_of.ensures.value in
    sym (no_civil_year c.args.civil c.args.step c.args.k (λ year. true≢false
    (sym (c.in-None.ensures.some.1 (subst (λ months. IsYear (shifted_year c.args.civil.date months)) (sym same) year)))))
