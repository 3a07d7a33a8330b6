-- Answers to the goals of `form::iso_date::date_for`.
use Rattle.std.proofs.Common.{◌≡◌, Result, Ok, ap, subst, sym, ◌∙◌, arith, to_z, of_z}
use Rattle.std.specs.Int.{w32}
use Rattle.std.proofs.lemmas.Int.{ints}
use Rattle.forms.specs.declared.value.Value.TheVariants.{Day}
use Rattle.forms.specs.Values.{IsWithinBounds}
use Rattle.iso8601.specs.declared.types.Date.{Date}
use Rattle.forms.specs.declared.cause.Cause.{Cause}
use Rattle.forms.specs.form.IsoDate.{Holds}
use Rattle.forms.proofs.IsoDates.{AreCalendarDates, held_civil}
use Rattle.forms.proofs.form.iso_date.date_for.Goals as goal

pub returns-in-Day : goal.returns-in-Day
returns-in-Day c =
    let within : IsWithinBounds (Day c.in-Day.day) = subst IsWithinBounds c.in-Day.is c.requires in
    let same : to_z w32 (of_z w32 c.in-Day.day) ≡ c.in-Day.day = omega (arith, ints) in
    let laws : AreCalendarDates = record {
      exists = c.civil_dates_are_calendar_dates.ensures.exists;
      day = c.civil_dates_are_calendar_dates.ensures.day;
      civil = c.years_and_weeks_follow_each_other.ensures.civil;
    } in
    let held = held_civil laws c.civil_date.result c.in-Day.day (c.civil_date.ensures ∙ same) in
    rw c.in-Day.is (subst (λ (r : Result Date Cause). Holds (Day c.in-Day.day) r) (sym (ap Ok c.date_of.ensures)) held)
