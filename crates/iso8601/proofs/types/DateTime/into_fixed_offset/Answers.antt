-- Answers to the goals of `types::DateTime::into_fixed_offset`.
use Rattle.std.proofs.Common.{rules, FitsSigned, refl}
use Rattle.std.specs.Int.{w32}
use Rattle.std.proofs.lemmas.Int.{to_z-of_z}
use Rattle.iso8601.proofs.types.DateTime.into_fixed_offset.Goals as goal

pub returns-clause-some : goal.returns-clause-some
returns-clause-some c =
    let f : FitsSigned w32 c.args.self.time.tz_offset_hours = search rules in
    let g : FitsSigned w32 c.args.self.time.tz_offset_minutes = search rules in
    let date = c.in_ok-date.ensures.some.0 refl in
    let time = c.in_ok-time.ensures.some.0 refl in
    let offset = simp to_z-of_z at (c.in_ok-offset_seconds.ensures.some.0 refl) in
    (λ some. (date.0, date.1, time, offset), λ is. refl)
