-- Answers to the goals of `form::iso_date_time::datetime_for`.
use Rattle.std.proofs.Common.{◌≡◌, subst, arith, to_z, of_z}
use Rattle.std.specs.Prelude.{ℤ}
use Rattle.std.specs.Int.{w128}
use Rattle.std.proofs.lemmas.Int.{ints}
use Rattle.forms.specs.declared.value.Value.TheVariants.{Instant}
use Rattle.forms.specs.Values.{IsWithinBounds}
use Rattle.forms.specs.inside.CivilMoments.{HoldsCivil}
use Rattle.forms.proofs.IsoDates.{AreCalendarDates}
use Rattle.forms.proofs.IsoDateTimes.{from_civil}
use Rattle.forms.proofs.form.iso_date_time.datetime_for.Goals as goal

pub returns-in-Instant-clause-held : goal.returns-in-Instant-clause-held
returns-in-Instant-clause-held c =
    let within : IsWithinBounds (Instant c.in-Instant.nanos) = subst IsWithinBounds c.in-Instant.is c.requires in
    let same : to_z w128 (of_z w128 c.in-Instant.nanos) ≡ c.in-Instant.nanos = omega (arith, ints) in
    let laws : AreCalendarDates = record {
      exists = c.civil_dates_are_calendar_dates.ensures.exists;
      day = c.civil_dates_are_calendar_dates.ensures.day;
      civil = c.years_and_weeks_follow_each_other.ensures.civil;
    } in
    let P : ℤ → Type 0 = λ z. HoldsCivil (Instant z) c.datetime_at.result in
    rw c.in-Instant.is (from_civil laws c.in-Instant.nanos c.datetime_at.result (subst P same c.datetime_at.ensures.held))
