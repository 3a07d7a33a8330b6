-- Items counted, no unit twice: cited by private contracts alone.
use Rattle.std.specs.Prelude.{◌≡◌, ◌⊎◌, ℕ, ◌+◌, ◌≤◌, length, Bool, true, false, List, [], ◌∷◌, ◌++◌, Option, Some, None, filter}
use Rattle.scan_core.specs.Count.{Count}
use Rattle.scan_core.specs.declared.share.Unit.{Unit as TimeUnit}
use Rattle.pg_interval_2.specs.declared.reading.distinct_tally.DistinctTally.{DistinctTally}
use Rattle.pg_interval_2.specs.declared.reading.distinct_tally.Step.{Step}
use Rattle.pg_interval_2.specs.declared.reading.distinct_tally.Step.TheVariants as step
use Rattle.scan_core.specs.declared.runs.Word.{Word}
use Rattle.pg_interval_2.specs.inside.Reading.{is_nonzero}
use Rattle.pg_interval_2.specs.inside.ItemReading.{ClockFields, NextItem, ClockItem, NamedItem, NoItem, clock_of, read_item}
use Rattle.pg_interval_2.specs.Postgres.{IsFreshName}
use Rattle.pg_interval_2.specs.inside.UnitPlaces.{counts_unit, has_distinct_units}
use Rattle.pg_interval_2.specs.inside.Reading.{Numeral, count_with}
use Rattle.pg_interval_2.specs.inside.Tallies.{Tallies}
use Rattle.pg_interval_2.specs.Turned.{turned_counts}
use Rattle.pg_interval_2.specs.inside.NamedUnits.{unit_named}
use Rattle.pg_interval_2.specs.inside.UnitSets.{holds_unit}

-- these counts, no unit twice, were counted
pub record IsDistinctTally (counted : DistinctTally) (counts : List Count) : Type 0 where
  pub tallied : Tallies counted.tally counts
  pub units : (unit : TimeUnit) → holds_unit counted.units unit ≡ counts_unit unit counts
  pub distinct : has_distinct_units counts ≡ true

-- one more count was taken, or its unit was counted before
abbrev pub CountsOne : List Count → Count → DistinctTally → Bool → Type 0
CountsOne counts c new true = (counts_unit c.unit counts ≡ false) × IsDistinctTally new (counts ++ c ∷ [])
CountsOne counts c new false = counts_unit c.unit counts ≡ true

-- the same where a count of 0 is passed over
abbrev pub CountsPerhaps : List Count → Count → DistinctTally → Bool → Type 0
CountsPerhaps counts c new true = IsDistinctTally new (counts ++ filter is_nonzero (c ∷ []))
CountsPerhaps counts c new false = (is_nonzero c ≡ true) × (counts_unit c.unit counts ≡ true)

-- the same of several counts
abbrev pub CountsAll : List Count → List Count → DistinctTally → Bool → Type 0
CountsAll counts more new true = IsDistinctTally new (counts ++ more)
CountsAll counts more new false = has_distinct_units (counts ++ more) ≡ false

-- a number of letters' unit was counted, or its unit before it, or the letters name none
abbrev pub CountsNamed : Option TimeUnit → List Count → Numeral → Word → DistinctTally → Step → Type 0
CountsNamed (Some unit) counts n word new step.Taken =
    IsDistinctTally new (counts ++ count_with n unit ∷ [])
CountsNamed (Some unit) counts n word new (step.BadName bad) =
    (bad ≡ word) × (counts_unit unit counts ≡ true)
CountsNamed (Some unit) counts n word new step.NoItem = ⊥
CountsNamed None counts n word new step.Taken = ⊥
CountsNamed None counts n word new (step.BadName bad) = bad ≡ word
CountsNamed None counts n word new step.NoItem = ⊥

-- an item that was read was counted, its counts turned or not as those before
abbrev pub TakesItem : (TimeUnit → List (List ℕ)) → Bool → NextItem → List ℕ → List Count → DistinctTally
    → Type 0
TakesItem names turned item rest counts new =
    ((fields : ClockFields) × (item ≡ ClockItem fields rest)
    × IsDistinctTally new (turned_counts turned (counts ++ clock_of fields)))
    ⊎ ((n : Numeral) × (letters : List ℕ) × (unit : TimeUnit)
    × (item ≡ NamedItem n letters rest) × (unit_named names letters ≡ Some unit)
    × IsDistinctTally new (turned_counts turned (counts ++ count_with n unit ∷ [])))

-- a number was read, and a word of the text behind it that is no fresh name
pub record IsBadStep (names : TimeUnit → List (List ℕ)) (text : List ℕ) (item : NextItem)
    (rest : List ℕ) (counts : List Count) (word : Word) : Type 0 where
  pub number : Numeral
  pub letters : List ℕ
  pub read : item ≡ NamedItem number letters rest
  pub bad : ¬ (IsFreshName names counts letters)
  pub starts : word.start + length letters ≡ word.end
  pub ends : word.end + length rest ≡ length text

-- no item was read, or a clock with a unit that was counted before
abbrev pub IsNoItem : NextItem → List Count → Type 0
IsNoItem item counts =
    (item ≡ NoItem)
    ⊎ ((fields : ClockFields) × (rest : List ℕ) × (item ≡ ClockItem fields rest)
    × (has_distinct_units (counts ++ clock_of fields) ≡ false))

-- what a step says of the item that was read and the rest behind it, behind these counts
abbrev pub IsItemStep : (TimeUnit → List (List ℕ)) → Bool → List ℕ → NextItem → List ℕ
    → List Count → DistinctTally → Step → Type 0
IsItemStep names turned text item rest counts new step.Taken =
    TakesItem names turned item rest counts new
IsItemStep names turned text item rest counts new (step.BadName word) =
    IsBadStep names text item rest counts word
IsItemStep names turned text item rest counts new step.NoItem = IsNoItem item counts

-- the step of a clock that was counted, or of no item
abbrev pub clock_step : Bool → Step
clock_step true = step.Taken
clock_step false = step.NoItem

-- what a step says of the bytes, behind these counts
abbrev pub IsStep : (TimeUnit → List (List ℕ)) → Bool → List ℕ → List ℕ → List ℕ → List Count
    → DistinctTally → Step → Type 0
IsStep names turned text bytes rest counts new result =
    IsItemStep names turned text (read_item bytes) rest counts new result

-- an item has no more counts than bytes
abbrev pub LeavesRoom : ℕ → ℕ → Step → Type 0
LeavesRoom room left step.Taken = left ≤ room
LeavesRoom room left (step.BadName word) = Unit {0}
LeavesRoom room left step.NoItem = Unit {0}
