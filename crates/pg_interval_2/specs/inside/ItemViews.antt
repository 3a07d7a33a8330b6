-- The clocks of the code, which lie in a text, as the readers on lists answer them: cited by private contracts alone.
use Rattle.std.specs.Prelude.{◌≡◌, ℕ, List, take}
use Rattle.scan_core.specs.Runs.{IsRun, digits_of}
use Rattle.pg_interval_2.specs.declared.reading.clock.Clock.{Clock}
use Rattle.pg_interval_2.specs.inside.ItemReading.{ClockFields, NextItem, ClockItem}

-- a clock has these fields, and of the fraction the first six digits
pub record HasFields (text : List ℕ) (clock : Clock) (fields : ClockFields) : Type 0 where
  pub negative : clock.negative ≡ fields.negative
  pub hours : digits_of text clock.hours ≡ fields.hours
  pub minutes : digits_of text clock.minutes ≡ fields.minutes
  pub seconds : digits_of text clock.seconds ≡ fields.seconds
  pub fraction : digits_of text clock.fraction ≡ take 6 fields.fraction

-- a clock was read, and this rest follows it
abbrev pub IsClockAs : List ℕ → List ℕ → NextItem → Clock → Type 0
IsClockAs text rest next clock =
    (fields : ClockFields) × (next ≡ ClockItem fields rest) × HasFields text clock fields

-- a clock's digits stand in the text
pub record AreClockRuns (text : List ℕ) (clock : Clock) : Type 0 where
  pub hours : IsRun text clock.hours
  pub minutes : IsRun text clock.minutes
  pub seconds : IsRun text clock.seconds
  pub fraction : IsRun text clock.fraction
