-- Answers to the goals of `types::DateTime::unix_millis`.
use Rattle.std.proofs.Common.{rules, FitsSigned, refl, subst, sym, ◌∙◌}
use Rattle.std.specs.Int.{w32, w64}
use Rattle.std.proofs.lemmas.Int.{to_z-of_z}
use Rattle.jiff_core.specs.Calendar.{IsEpochDay}
use Rattle.iso8601.specs.Calendar.{day_of}
use Rattle.iso8601.proofs.CivilDays.{is_civil}
use Rattle.iso8601.proofs.types.DateTime.unix_millis.Goals as goal

pub millis_at-requires-clause-day : goal.millis_at-requires-clause-day
millis_at-requires-clause-day c =
    let civil = is_civil (day_of c.args.self.date) (c.in_ok-day.ensures.some.0 refl).1 in
    let f : FitsSigned w32 c.in_ok-day.day = search rules in
    simp to_z-of_z (subst IsEpochDay (sym c.in_ok-day.ensures.value) civil)

pub returns-clause-some : goal.returns-clause-some
returns-clause-some c =
    let f : FitsSigned w32 c.args.self.time.tz_offset_hours = search rules in
    let g : FitsSigned w32 c.args.self.time.tz_offset_minutes = search rules in
    let date = c.in_ok-day.ensures.some.0 refl in
    let clock = c.in_ok-clock.ensures.some.0 refl in
    let offset = simp to_z-of_z at (c.in_ok-offset.ensures.some.0 refl) in
    (λ some. (date.0, date.1, clock, offset), λ is. refl)

pub returns-clause-value : goal.returns-clause-value
returns-clause-value c =
    let f : FitsSigned w32 c.args.self.time.tz_offset_hours = search rules in
    let g : FitsSigned w32 c.args.self.time.tz_offset_minutes = search rules in
    let d : FitsSigned w32 c.in_ok-day.day = search rules in
    let e : FitsSigned w32 c.in_ok-offset.offset = search rules in
    let seconds = simp to_z-of_z at c.in_ok-offset.ensures.value in
    let millis = simp to_z-of_z at c.millis_at.ensures in
    let day = c.in_ok-day.ensures.value in
    let clock = c.in_ok-clock.ensures.value in
    let m : FitsSigned w64 c.millis_at.result = search rules in
    simp to_z-of_z (millis ∙ rw (day, clock, seconds) refl)
