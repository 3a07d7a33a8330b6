-- Where the months of a length stand alone, by two remainders of its whole seconds.
use Rattle.std.proofs.Common.{ℕ, ◌%◌, ◌^◌, ◌<◌, ◌≤◌, ◌↔◌, Bool, true, false, not, IsTrue, refl, sym, arith}
use Rattle.std.proofs.lemmas.Bool.{true≢false}
use Rattle.fancy_duration.specs.declared.part.DurationPart.TheVariants.{Years, Months, Minutes}
use Rattle.fancy_duration.specs.Parts.{weight_of}
use Rattle.fancy_duration.specs.Breakdown.{breakdown, count_of}
use Rattle.fancy_duration.specs.Times.{nanos_of}
use Rattle.fancy_duration.specs.inside.Writing.{seconds_of}
use Rattle.fancy_duration.specs.Meanings.{Denotes}
use Rattle.fancy_duration.specs.Written.{length_text}
use Rattle.fancy_duration.specs.Collisions.{MonthsStandAlone}
use Rattle.fancy_duration.proofs.ReadBack.{read_back}

alone_by_remainders : (n : ℕ)
    → ((weight_of Months ≤ n % weight_of Years) × (n % weight_of Years % weight_of Months < weight_of Minutes)) ↔ MonthsStandAlone n
unfolding breakdown count_of
alone_by_remainders n = (
  λ h. record {
    months = omega (arith, h.0);
    weeks = omega (arith, h.1);
    days = omega (arith, h.1);
    hours = omega (arith, h.1);
    minutes = omega (arith, h.1);
  },
  λ alone. (omega (arith, alone.months), omega (arith, alone.weeks, alone.days, alone.hours, alone.minutes)),
)

pub alone_by_seconds : (seconds nanos : ℕ) → nanos < 1_000_000_000
    → ((seconds_of Months ≤ seconds % seconds_of Years) × (seconds % seconds_of Years % seconds_of Months < seconds_of Minutes))
    ↔ MonthsStandAlone (nanos_of (seconds, nanos))
alone_by_seconds seconds nanos below = let by = alone_by_remainders (nanos_of (seconds, nanos)) in (
  λ h. by.0 (omega (arith, below, h.0), omega (arith, below, h.1)),
  λ alone. let parts = by.1 alone in (omega (arith, below, parts.0), omega (arith, below, parts.1)),
)

not_tested : {P : Type 0} (t : Bool) → (IsTrue t ↔ P) → IsTrue (not t) ↔ (¬ P)
not_tested true is = (λ e. absurd (true≢false (sym e)), λ h. absurd (h (is.0 refl)))
not_tested false is = (λ e p. true≢false (sym (is.1 p)), λ h. refl)

-- a text is read back where a test says that the months don't stand alone
pub tells_read_back : (times : ℕ × ℕ) (alone : Bool) → times.0 < 2 ^ 64 → times.1 < 1_000_000_000
    → (IsTrue alone ↔ MonthsStandAlone (nanos_of times))
    → IsTrue (not alone) ↔ Denotes (length_text (nanos_of times)) times
tells_read_back times alone small below is =
    let back = read_back times small below in
    let test : IsTrue (not alone) ↔ (¬ (MonthsStandAlone (nanos_of times))) = not_tested alone is in
    (λ h. back.1 (test.0 h), λ h. test.1 (back.0 h))
