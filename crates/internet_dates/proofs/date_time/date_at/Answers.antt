-- Answers to the goals of `date_time::date_at`.
use Rattle.std.proofs.Common.{sym, ◌∙◌, subst}
use Rattle.std.specs.Prelude.{ℤ, pos, ◌<ℤ◌}
use Rattle.std.proofs.Math.Facts.{to_z-of_z}
use Rattle.jiff_core.specs.Calendar.{IsEpochDay}
use Rattle.internet_dates.proofs.DayFacts.{kept_year, less, no_day, early_day, before_first}
use Rattle.internet_dates.proofs.date_time.date_at.Goals as goal

pub returns-in_default-clause-none : goal.returns-in_default-clause-none
returns-in_default-clause-none c = no_day c.civil_dates_are_calendar_dates.ensures.day c.args.first c.args.number
    (λ h. let e = c.in_default.ensures.succeeds.1 (subst IsEpochDay (sym (to_z-of_z c.ranges.number)) h) in cc)

pub returns-in_default-written_year-clause-none : goal.returns-in_default-written_year-clause-none
returns-in_default-written_year-clause-none c =
    let early = less (pos 0) _ (λ h. let e = c.in_default-written_year.ensures.some.1 h in cc) in
    early_day c.civil_dates_are_calendar_dates.ensures.day c.args.first c.args.number c.in-Ok.civil
    (subst (λ (z : ℤ). z <ℤ pos 0) (kept_year c.in-Ok.civil) early) (c.in-Ok.ensures.value ∙ to_z-of_z c.ranges.number)

pub returns-then-year-first-clause-none : goal.returns-then-year-first-clause-none
returns-then-year-first-clause-none c =
    before_first c.civil_dates_are_calendar_dates.ensures.day c.args.first c.args.number c.in-Ok.civil c.in-Some.year
    (sym (c.in-Some.ensures.value ∙ kept_year c.in-Ok.civil)) (c.in-Ok.ensures.value ∙ to_z-of_z c.ranges.number) c.if-year-first.true
