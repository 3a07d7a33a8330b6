-- Answers to the goals of `writing::clock::push_clock`.
use Rattle.std.proofs.Common.{FitsSigned, append_assoc, refl, to_z-of_z, w64}
use Rattle.pg_interval_2.specs.inside.ClockSteps.{clock_steps}
use Rattle.pg_interval_2.proofs.writing.clock.push_clock.Goals as goal

pub returns-clause-bytes : goal.returns-clause-bytes
unfolding clock_steps
returns-clause-bytes g c =
    let micros : FitsSigned w64 c.args.micros = c.ranges.micros in
    simp (
      c.push_nonzero_fraction.ensures.bytes,
      c.push_field-2.ensures.bytes,
      c.push_field.ensures.bytes,
      c.push_hours.ensures.bytes,
      c.hours_of.ensures,
      c.minutes_of.ensures,
      c.seconds_of.ensures,
      c.subsecond_of.ensures,
      to_z-of_z,
      append_assoc,
    ) refl
