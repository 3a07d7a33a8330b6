-- Answers to the goals of `form::timestamps::in_micros`.
use Rattle.std.proofs.Common.{rules, ap, ap₂, sym, ◌∙◌, FitsSigned, ℤ, w32, w64}
use Rattle.std.specs.Int.{w128}
use Rattle.std.proofs.Math.Facts.{to_z-of_z}
use Rattle.forms.specs.declared.value.Value.TheVariants.{Instant, Day, Local}
use Rattle.forms.proofs.PgTimestamps.{same_value}
use Rattle.forms.proofs.form.timestamps.in_micros.Goals as goal

pub returns-in-Instant : goal.returns-in-Instant
returns-in-Instant c =
    let fits : FitsSigned w128 c.in-Instant.nanos = search rules in
    same_value _ _ _ (c.in-Instant.is ∙ ap (λ (z : ℤ). Instant z) (sym (to_z-of_z fits))) c.moment_at.ensures

pub returns-in-Day : goal.returns-in-Day
returns-in-Day c =
    let fits : FitsSigned w32 c.in-Day.day = search rules in
    same_value _ _ _ (c.in-Day.is ∙ ap (λ (z : ℤ). Day z) (sym (to_z-of_z fits))) c.whole.ensures

pub returns-in-Local : goal.returns-in-Local
returns-in-Local c =
    let day : FitsSigned w32 c.in-Local.day = search rules in
    let nanos : FitsSigned w64 c.in-Local.nanos = search rules in
    same_value _ _ _ (c.in-Local.is ∙ ap₂ (λ (d n : ℤ). Local d n) (sym (to_z-of_z day)) (sym (to_z-of_z nanos))) c.local_at.ensures
