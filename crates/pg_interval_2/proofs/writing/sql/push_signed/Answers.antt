-- Answers to the goals of `writing::sql::push_signed`.
use Rattle.std.proofs.Common.{FitsSigned, append_assoc, refl, to_z-of_z, w32, w64}
use Rattle.pg_interval_2.specs.inside.SqlSteps.{signed_text}
use Rattle.pg_interval_2.proofs.writing.sql.push_signed.Goals as goal

pub returns-clause-bytes : goal.returns-clause-bytes
unfolding signed_text
returns-clause-bytes g c =
    let months : FitsSigned w32 c.args.months = c.ranges.months in
    let days : FitsSigned w32 c.args.days = c.ranges.days in
    let micros : FitsSigned w64 c.args.micros = c.ranges.micros in
    simp (
      c.push_clock.ensures.bytes,
      c.push_sign-3.ensures.bytes,
      c.push_text-2.ensures.bytes,
      c.push_digits.ensures.bytes,
      c.push_sign-2.ensures.bytes,
      c.push_text.ensures.bytes,
      c.push_year_month.ensures.bytes,
      c.push_sign.ensures.bytes,
      c.is_negative.ensures,
      c.is_negative-2.ensures,
      c.is_negative-3.ensures,
      c.unsigned_abs.ensures.value,
      to_z-of_z,
      append_assoc,
    ) refl
