-- Answers to the goals of the law `texts_of_durations_are_read_back`.
use Rattle.std.proofs.Common.{◌≡◌, ◌↔◌, ℕ, arith, subst}
use Rattle.std.specs.Duration.{as_nanos}
use Rattle.fancy_duration.specs.Times.{nanos_of}
use Rattle.fancy_duration.specs.Meanings.{Denotes}
use Rattle.fancy_duration.specs.Written.{length_text}
use Rattle.fancy_duration.specs.Collisions.{MonthsStandAlone}
use Rattle.fancy_duration.specs.Durations.{duration_times}
use Rattle.fancy_duration.proofs.ReadBack.{read_back}
use Rattle.fancy_duration.proofs.laws.texts_of_durations_are_read_back.Goals as goal

pub returns : goal.returns
returns c d h =
    let same : nanos_of (duration_times d) ≡ as_nanos d = omega arith in
    let P : ℕ → Type 0 = λ n. Denotes (length_text (nanos_of (duration_times d))) (duration_times d) ↔ (¬ (MonthsStandAlone n)) in
    subst P same (read_back (duration_times d) (omega arith) (omega arith))
