-- Answers to the goals of `made::moment_at`.
use Rattle.std.proofs.Common.{◌≡◌, ◌/◌, ◌%◌, rules, ◌∙◌, FitsSigned, w32, w64}
use Rattle.std.specs.Prelude.{pos, ◌+ℤ◌, ◌-ℤ◌}
use Rattle.std.proofs.lemmas.Int.{to_z-of_z}
use Rattle.pg_timestamp.specs.Values.{micros_of_day}
use Rattle.pg_timestamp.specs.Dates.{date_number}
use Rattle.pg_timestamp.proofs.MomentFacts.{moment_written}
use Rattle.pg_timestamp.proofs.made.moment_at.Goals as goal

pub returns : goal.returns
returns c =
    let m : FitsSigned w64 c.args.micros = c.ranges.micros in
    let d : FitsSigned w32 c.utc_day.result = search rules in
    let since : pos c.since_first-since.result ≡ c.args.micros +ℤ pos 210_866_803_200_000_000 =
    simp to_z-of_z at c.since_first-since.ensures.value in
    let day : date_number c.date_at.result ≡ pos (c.since_first-since.result / 86_400_000_000) -ℤ pos 2_440_588 =
    (simp to_z-of_z at c.date_at.ensures.day) ∙ c.utc_day.ensures.value in
    let micros : micros_of_day c.time_at.result ≡ c.since_first-since.result % 86_400_000_000 = c.time_at.ensures.micros
    ∙ c.utc_micros.ensures.value in
    moment_written c.args.micros c.since_first-since.result c.date_at.result c.time_at.result since c.date_at.ensures.real day
    c.date_at.ensures.held c.time_at.ensures.clock micros c.time_at.ensures.offset
