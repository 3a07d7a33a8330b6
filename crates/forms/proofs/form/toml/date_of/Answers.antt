-- Answers to the goals of `form::toml::date_of`.
use Rattle.std.proofs.Common.{sym, ◌∙◌, subst}
use Rattle.std.specs.Prelude.{ℤ, pos, ◌<ℤ◌}
use Rattle.std.proofs.Math.Facts.{to_z-of_z}
use Rattle.jiff_core.specs.Calendar.{IsEpochDay}
use Rattle.forms.proofs.Fitting.{less}
use Rattle.forms.proofs.TomlDateTimes.{kept_year, held_day, early_day, no_day}
use Rattle.forms.proofs.form.toml.date_of.Goals as goal

pub returns-in_default : goal.returns-in_default
returns-in_default c = no_day c.civil_dates_are_calendar_dates.ensures.day c.args.day
    (λ h. let e = c.in_default.ensures.succeeds.1 (subst IsEpochDay (sym (to_z-of_z c.ranges.day)) h) in cc)

pub returns-in_default-written_year : goal.returns-in_default-written_year
returns-in_default-written_year c =
    let early = less (pos 0) _ (λ h. let e = c.in_default-written_year.ensures.some.1 h in cc) in
    early_day c.civil_dates_are_calendar_dates.ensures.day c.in-Ok.civil c.args.day
    (subst (λ (z : ℤ). z <ℤ pos 0) (kept_year c.in-Ok.civil) early) (c.in-Ok.ensures.value ∙ to_z-of_z c.ranges.day)

pub returns : goal.returns
returns c = held_day c.civil_dates_are_calendar_dates.ensures.day c.in-Ok.civil c.in-Some.year c.args.day
    (sym (c.in-Some.ensures.value ∙ kept_year c.in-Ok.civil)) (c.in-Ok.ensures.value ∙ to_z-of_z c.ranges.day)
