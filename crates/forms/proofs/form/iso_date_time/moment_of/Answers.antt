-- Answers to the goals of `form::iso_date_time::moment_of`.
use Rattle.std.proofs.Common.{◌≡◌, Ok, rules, refl, subst, FitsSigned, arith, to_z, of_z}
use Rattle.std.specs.Prelude.{ℤ}
use Rattle.std.specs.Int.{w64, w128}
use Rattle.std.proofs.lemmas.Int.{ints, to_z-of_z}
use Rattle.forms.specs.declared.value.Value.TheVariants.{Instant}
use Rattle.forms.specs.form.IsoDateTime.{instant_of, Worth}
use Rattle.forms.proofs.IsoDateTimes.{is_worth, moment_value, none_worth}
use Rattle.forms.proofs.form.iso_date_time.moment_of.Goals as goal

pub returns-in-Some : goal.returns-in-Some
returns-in-Some c =
    let real = c.in-Some.ensures.some.0 refl in
    let moment = moment_value c.args.datetime c.in-Some.millis c.in-Some.ensures.value in
    let f : FitsSigned w64 c.in-Some.millis = search rules in
    let nanos = simp to_z-of_z at c.nanos_of.ensures in
    let fits = c.nanos_of.type_inv in
    let same : instant_of c.args.datetime ≡ to_z w128 (of_z w128 c.nanos_of.result) = omega (arith, ints, moment, nanos, fits) in
    let P : ℤ → Type 0 = λ z. Worth c.args.datetime (Ok (Instant z)) in
    subst P same (is_worth c.args.datetime real)

pub returns-in-None : goal.returns-in-None
returns-in-None c = none_worth c.args.datetime c.why_none.result (λ moment. let e = c.in-None.ensures.some.1 moment in cc) c.why_none.ensures
