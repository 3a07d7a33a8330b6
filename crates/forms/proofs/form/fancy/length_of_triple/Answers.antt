-- Answers to the goals of `form::fancy::length_of_triple`.
use Rattle.std.proofs.Common.{◌≡◌, sym, ap, ◌∙◌, arith, of_z}
use Rattle.std.specs.Prelude.{ℤ, pos}
use Rattle.std.specs.Int.{w64}
use Rattle.std.proofs.lemmas.Int.{ints}
use Rattle.forms.specs.form.Fancy.{length_of}
use Rattle.forms.proofs.ShortDurations.{without_months, with_months}
use Rattle.forms.proofs.form.fancy.length_of_triple.Goals as goal

pub returns-then-months-eq0-clause-held : goal.returns-then-months-eq0-clause-held
returns-then-months-eq0-clause-held c =
    let months = c.ranges.months in
    let days = c.ranges.days in
    let micros = c.ranges.micros in
    let zero = c.if-months-eq0.true in
    let none : c.args.months ≡ pos 0 = omega (arith, ints) in
    let sum = c.nanos_of.ensures in
    let within = c.nanos_of.type_inv in
    c.length_of.ensures.held ∙ (ap length_of (omega (arith, ints)) ∙ sym (without_months c.args.months c.args.days c.args.micros none))

pub returns-else-months-eq0-clause-held : goal.returns-else-months-eq0-clause-held
returns-else-months-eq0-clause-held c = sym (with_months c.args.months c.args.days c.args.micros
    (λ none. c.if-months-eq0.false (ap (λ (z : ℤ). of_z w64 z) none)))
