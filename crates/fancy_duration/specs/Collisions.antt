-- Where the written texts are ambiguous: `m` is months and minutes, and what it is read as hangs on
-- what follows it.
use Rattle.std.specs.Prelude.{◌≡◌, ℕ, ◌<◌, ◌≤◌, ◌⊎◌}
use Rattle.fancy_duration.specs.declared.part.DurationPart.TheVariants.{Years, Months, Weeks, Days, Hours, Minutes, Seconds, Milliseconds}
use Rattle.fancy_duration.specs.declared.part.DurationPart.TheVariants.{Microseconds, Nanoseconds}
use Rattle.fancy_duration.specs.Breakdown.{count_of}

-- a length has months, and no weeks, days, hours or minutes, so that its written `m` is read as
-- minutes
pub record MonthsStandAlone (nanos : ℕ) : Type 0 where
  pub months : 0 < count_of Months nanos
  pub weeks : count_of Weeks nanos ≡ 0
  pub days : count_of Days nanos ≡ 0
  pub hours : count_of Hours nanos ≡ 0
  pub minutes : count_of Minutes nanos ≡ 0

-- one length has k months and no minutes, the other k minutes and no months, nothing stands
-- between, and all else is equal
pub record Swaps (k : ℕ) (first second : ℕ) : Type 0 where
  pub some : 1 ≤ k
  pub within : k ≤ 11
  pub first_months : count_of Months first ≡ k
  pub first_minutes : count_of Minutes first ≡ 0
  pub second_months : count_of Months second ≡ 0
  pub second_minutes : count_of Minutes second ≡ k
  pub weeks : (count_of Weeks first ≡ 0) × (count_of Weeks second ≡ 0)
  pub days : (count_of Days first ≡ 0) × (count_of Days second ≡ 0)
  pub hours : (count_of Hours first ≡ 0) × (count_of Hours second ≡ 0)
  pub years : count_of Years first ≡ count_of Years second
  pub seconds : count_of Seconds first ≡ count_of Seconds second
  pub milliseconds : count_of Milliseconds first ≡ count_of Milliseconds second
  pub microseconds : count_of Microseconds first ≡ count_of Microseconds second
  pub nanoseconds : count_of Nanoseconds first ≡ count_of Nanoseconds second

-- for some k one of the two lengths has k months where the other has k minutes, and all else is equal
abbrev pub Collide : ℕ → ℕ → Type 0
Collide a b = (k : ℕ) × (Swaps k a b ⊎ Swaps k b a)
