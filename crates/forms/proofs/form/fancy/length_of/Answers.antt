-- Answers to the goals of `form::fancy::length_of`.
use Rattle.std.proofs.Common.{◌≡◌, sym, ap, ◌∙◌, subst, arith}
use Rattle.std.specs.Prelude.{ℤ, pos, ◌<ℤ◌}
use Rattle.std.proofs.Math.Facts.{to_z-of_z}
use Rattle.std.proofs.lemmas.Int.{ints}
use Rattle.fancy_duration.specs.Collisions.{MonthsStandAlone}
use Rattle.fancy_duration.specs.Times.{nanos_of}
use Rattle.fancy_duration.specs.Durations.{duration_times}
use Rattle.forms.specs.form.Fancy.{length_of}
use Rattle.forms.proofs.Fitting.{less}
use Rattle.forms.proofs.ShortDurations.{negative, too_long, read_back, ambiguous}
use Rattle.forms.proofs.form.fancy.length_of.Goals as goal

pub returns-in_default-clause-held : goal.returns-in_default-clause-held
returns-in_default-clause-held c = sym (negative c.args.nanos (subst (λ (z : ℤ). z <ℤ pos 0) (to_z-of_z c.ranges.nanos)
    (less (pos 0) _ c.in_default.ensures)))

pub returns-then-length-ge-TOO_LONG-clause-held : goal.returns-then-length-ge-TOO_LONG-clause-held
returns-then-length-ge-TOO_LONG-clause-held c =
    let range = c.ranges.nanos in
    let value = c.in-Ok.ensures in
    let is : c.args.nanos ≡ pos c.in-Ok.length = omega (arith, ints) in
    let long = c.if-length-ge-TOO_LONG.true in
    sym (ap length_of is ∙ too_long c.in-Ok.length (omega arith))

pub returns-then-reads_back-clause-held : goal.returns-then-reads_back-clause-held
returns-then-reads_back-clause-held c =
    let range = c.ranges.nanos in
    let value = c.in-Ok.ensures in
    let is : c.args.nanos ≡ pos c.in-Ok.length = omega (arith, ints) in
    let long = c.if-length-ge-TOO_LONG.false in
    let length = c.duration.ensures in
    let same : nanos_of (duration_times c.duration.result.0) ≡ c.in-Ok.length = omega arith in
    sym (ap length_of is ∙ read_back c.in-Ok.length (omega arith)
    (λ alone. c.reads_back.ensures.months.0 c.if-reads_back.true (subst MonthsStandAlone (sym same) alone)))

pub returns-else-reads_back-clause-held : goal.returns-else-reads_back-clause-held
returns-else-reads_back-clause-held c =
    let range = c.ranges.nanos in
    let value = c.in-Ok.ensures in
    let is : c.args.nanos ≡ pos c.in-Ok.length = omega (arith, ints) in
    let long = c.if-length-ge-TOO_LONG.false in
    let length = c.duration.ensures in
    let same : nanos_of (duration_times c.duration.result.0) ≡ c.in-Ok.length = omega arith in
    sym (ap length_of is ∙ ambiguous c.in-Ok.length (omega arith)
    (λ clear. let back = c.reads_back.ensures.months.1 (λ alone. clear (subst MonthsStandAlone same alone)) in let not
    = c.if-reads_back.false in cc))
