-- Answers to the goals of `writing::postgres::push_words`.
use Rattle.std.proofs.Common.{◌++◌, List, ℕ, ap, append_assoc, codes, unsigned_abs, FitsSigned, w32, w64, to_z-of_z}
use Rattle.std.specs.Int.{is_negative}
use Rattle.pg_interval_2.specs.inside.PartSteps.{years_of, months_of}
use Rattle.pg_interval_2.specs.inside.PostgresSteps.{clock_words, named_words}
use Rattle.pg_interval_2.proofs.Spaces.{four_steps}
use Rattle.pg_interval_2.proofs.writing.postgres.push_words.Goals as goal

pub returns-clause-bytes : goal.returns-clause-bytes
returns-clause-bytes g c =
    let months_fit : FitsSigned w32 c.args.months = c.ranges.months in
    let days_fit : FitsSigned w32 c.args.days = c.ranges.days in
    let micros_fit : FitsSigned w64 c.args.micros = c.ranges.micros in
    let negative = is_negative c.args.months in
    let years = named_words negative (years_of c.args.months) (codes "year") in
    let months = named_words negative (months_of c.args.months) (codes "mon") in
    let days = named_words (is_negative c.args.days) (unsigned_abs c.args.days) (codes "day") in
    simp (
      c.push_time.ensures.bytes,
      c.push_part-words-3.ensures.bytes,
      c.push_part-words-2.ensures.bytes,
      c.push_part-words.ensures.bytes,
      c.push_part-words-3.ensures.words,
      c.push_part-words-2.ensures.words,
      c.push_part-words.ensures.words,
      c.is_negative-negative.ensures,
      c.is_negative.ensures,
      c.years_of.ensures,
      c.months_of.ensures,
      c.unsigned_abs.ensures.value,
      to_z-of_z,
      append_assoc,
    )
    (ap (λ (l : List ℕ). c.args.out.now.bytes ++ l) (four_steps years months days (clock_words c.args.micros)))
