-- What reading an ISO text does to a tally and to the order of units beside it: cited by private contracts alone.
use Rattle.std.specs.Prelude.{◌≡◌, ℕ, Bool, true, false, ◌==◌, List, [], ◌∷◌, ◌++◌, None}
use Rattle.scan_core.specs.Count.{Count}
use Rattle.pg_interval_2.specs.declared.reading.iso.OrderedTally.{OrderedTally}
use Rattle.pg_interval_2.specs.declared.reading.order.Order.{Order}
use Rattle.pg_interval_2.specs.declared.reading.tally.Tally.{Tally}
use Rattle.pg_interval_2.specs.Denotes.{HasNoShape}
use Rattle.pg_interval_2.specs.Iso.{unit_in}
use Rattle.pg_interval_2.specs.inside.IsoShapes.{ArePairs, IsIsoEither}
use Rattle.pg_interval_2.specs.inside.IsoShapes.{IsStrictEither}
use Rattle.pg_interval_2.specs.inside.Orders.{Orders}
use Rattle.pg_interval_2.specs.inside.Reading.{read_pair}
use Rattle.pg_interval_2.specs.inside.Tallies.{IsTallyOf, Tallies}

-- pairs were taken from the front of the bytes, and their counts by the tally and by the order
pub record TakesPairs (in_time : Bool) (bytes rest : List ℕ) (old new : Tally) (was is : Order)
    : Type 0 where
  pub front : List ℕ
  pub counts : List Count
  pub pairs : ArePairs (unit_in in_time) front counts
  pub split : bytes ≡ front ++ rest
  pub tallied : (before : List Count) → Tallies old before → Tallies new (before ++ counts)
  pub ordered : (before : List Count) → Orders in_time was before
      → Orders in_time is (before ++ counts)

-- no pair can stand here: at the end, and before the `T`
abbrev pub ends_pairs : List ℕ → Bool
ends_pairs [] = true
ends_pairs (b ∷ bs) = b == 84

-- pairs were taken from the front of the bytes, and behind them stands neither a pair nor what may follow pairs
pub record StopsBehindPairs (in_time : Bool) (bytes : List ℕ) (old : Tally) (was : Order)
    : Type 0 where
  pub rest : List ℕ
  pub mid : Tally
  pub order : Order
  pub taken : TakesPairs in_time bytes rest old mid was order
  pub stuck : read_pair (unit_in in_time) rest ≡ None
  pub goes_on : ends_pairs rest ≡ false

-- what a text in ISO style spells, and whether it does so in the strict style
pub record IsSpelled (text : List ℕ) (spelled : OrderedTally) : Type 0 where
  pub tallied : IsTallyOf IsIsoEither text spelled.tally
  pub strict : spelled.in_order ≡ true → IsTallyOf IsStrictEither text spelled.tally
  pub loose : spelled.in_order ≡ false → HasNoShape IsStrictEither text
