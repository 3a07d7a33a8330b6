-- Answers to the goals of `form::file_time::off_ticks`.
use Rattle.std.proofs.Common.{Ok, Err, subst, sym}
use Rattle.std.specs.Prelude.{ℤ}
use Rattle.std.proofs.Math.Facts.{to_z-of_z}
use Rattle.nt_time.specs.UnixTime.{IsFromUnixNanos}
use Rattle.forms.proofs.FileTimes.{between, beyond, count_fits}
use Rattle.forms.proofs.form.file_time.off_ticks.Goals as goal

pub returns-in-Ok : goal.returns-in-Ok
returns-in-Ok c =
    let P : ℤ → Type 0 = λ z. IsFromUnixNanos z (Ok c.in-Ok.field-0) in
    let from = subst P (to_z-of_z c.ranges.nanos) c.in-Ok.ensures in
    sym (between c.args.nanos c.in-Ok.field-0 from
    (λ e. c.requires c.in-Ok.field-0 (count_fits c.args.nanos c.in-Ok.field-0 from e) e))

pub returns-in-Err : goal.returns-in-Err
returns-in-Err c =
    let P : ℤ → Type 0 = λ z. IsFromUnixNanos z (Err c.in-Err.field-0) in
    sym (beyond c.args.nanos c.in-Err.field-0 (subst P (to_z-of_z c.ranges.nanos) c.in-Err.ensures))
