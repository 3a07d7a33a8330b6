-- Answers to the goals of `writing::verbose::push_date`.
use Rattle.std.proofs.Common.{FitsSigned, append_assoc, refl, to_z-of_z, w32}
use Rattle.pg_interval_2.specs.inside.VerboseSteps.{verbose_date}
use Rattle.pg_interval_2.proofs.writing.verbose.push_date.Goals as goal

pub returns-clause-bytes : goal.returns-clause-bytes
unfolding verbose_date
returns-clause-bytes g c =
    let months : FitsSigned w32 c.args.months = c.ranges.months in
    let days : FitsSigned w32 c.args.days = c.ranges.days in
    simp (
      c.push_unit-3.ensures.bytes,
      c.push_unit-2.ensures.bytes,
      c.push_unit.ensures.bytes,
      c.turn-sign.ensures,
      c.turn.ensures,
      c.is_negative.ensures,
      c.is_negative-2.ensures,
      c.years_of.ensures,
      c.months_of.ensures,
      c.unsigned_abs.ensures.value,
      to_z-of_z,
      append_assoc,
    ) refl
