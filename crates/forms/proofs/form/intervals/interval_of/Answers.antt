-- Answers to the goals of `form::intervals::interval_of`.
use Rattle.std.proofs.Common.{sym, subst, arith, FitsSigned, w32}
use Rattle.std.specs.Prelude.{ℤ}
use Rattle.std.proofs.Math.Facts.{to_z-of_z}
use Rattle.std.proofs.lemmas.Int.{ints}
use Rattle.forms.proofs.Intervals.{made_of, no_months, no_days}
use Rattle.forms.proofs.form.intervals.interval_of.Goals as goal

pub returns-in_default : goal.returns-in_default
returns-in_default c = sym (no_months c.args.months c.args.days c.args.micros
    (λ fits. c.in_default.ensures (subst (λ (z : ℤ). FitsSigned w32 z) (sym (to_z-of_z c.ranges.months)) fits)))

pub returns-in_default-try_from : goal.returns-in_default-try_from
returns-in_default-try_from c = sym (no_days c.args.months c.args.days c.args.micros
    (λ fits. c.in_default-try_from.ensures (subst (λ (z : ℤ). FitsSigned w32 z) (sym (to_z-of_z c.ranges.days)) fits)))

pub returns : goal.returns
returns c =
    let months : FitsSigned w32 c.args.months = subst (λ (z : ℤ). FitsSigned w32 z) (to_z-of_z c.ranges.months) c.in-Ok.ensures.0 in
    let days : FitsSigned w32 c.args.days = subst (λ (z : ℤ). FitsSigned w32 z) (to_z-of_z c.ranges.days) c.in-Ok-try_from.ensures.0 in
    let micros = c.ranges.micros in
    let m = c.in-Ok.ensures.1 in
    let d = c.in-Ok-try_from.ensures.1 in
    made_of c.new.result _ _ _ c.args.months c.args.days c.args.micros c.new.ensures (omega (arith, ints)) (omega (arith, ints))
    (omega (arith, ints)) months days micros
