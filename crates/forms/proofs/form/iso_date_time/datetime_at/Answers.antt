-- Answers to the goals of `form::iso_date_time::datetime_at`.
use Rattle.std.proofs.Common.{◌∙◌, inl, subst, sym}
use Rattle.std.proofs.Math.Facts.{to_z-of_z}
use Rattle.jiff_core.specs.DateTime.{IsCivilNanos}
use Rattle.forms.proofs.IsoDateTimes.{no_civil}
use Rattle.forms.proofs.form.iso_date_time.datetime_at.Goals as goal

pub returns-in-Ok-clause-held : goal.returns-in-Ok-clause-held
returns-in-Ok-clause-held c = inl (c.in-Ok.civil, c.in-Ok.ensures.value ∙ to_z-of_z c.ranges.nanos, c.in_millis.ensures.held)

pub returns-in-Err-clause-held : goal.returns-in-Err-clause-held
returns-in-Err-clause-held c = no_civil c.args.nanos (λ h. let e = c.in-Err.ensures.succeeds.1
    (subst IsCivilNanos (sym (to_z-of_z c.ranges.nanos)) h) in cc)
