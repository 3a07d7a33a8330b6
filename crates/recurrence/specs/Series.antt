-- Series: the instants 0, 1 and so on steps from a start, up to the last or to the first that there is not.
use Rattle.std.specs.Prelude.{◌≡◌, ℕ, ◌+◌, ◌≤◌, List, [], ◌∷◌, length, ℤ, Option, Some, None}
use Rattle.pg_interval_2.specs.declared.interval.Interval.{Interval}
use Rattle.recurrence.specs.Instants.{IsAt}

-- the instants k, k + 1 and so on steps from the start
abbrev pub AreAt : ℤ → Interval → ℕ → List ℤ → Type 0
AreAt start step k [] = Unit {0}
AreAt start step k (instant ∷ more) =
    IsAt start step k (Some instant) × AreAt start step (k + 1) more

-- how a series of so many instants ends: with the one `last` steps from the start, or before the first that there is not
abbrev pub Ends : ℤ → Interval → ℕ → ℕ → Option ℕ → Type 0
Ends start step last count None = count ≡ last + 1
Ends start step last count (Some k) = (count ≡ k) × (k ≤ last) × IsAt start step k None

-- the instants 0, 1 and so on to `last` steps from the start, or those before the first that there is not, where the series stops
pub record IsSeries (start : ℤ) (step : Interval) (last : ℕ) (instants : List ℤ)
    (stop : Option ℕ) : Type 0 where
  pub each : AreAt start step 0 instants
  pub ends : Ends start step last (length instants) stop

-- What contracts see of a series: the instants still to come, the step that has none where the series will stop or stopped, and the same
-- once that step was met.
pub record SeriesState : Type 0 where
  pub left : List ℤ
  pub stop : Option ℕ
  pub stopped : Option ℕ

-- a call gives the first instant of those still to come; or none, where none is to come, and from then on it is known where the series
-- stopped
abbrev pub GivesNext : SeriesState → Option ℤ → SeriesState → Type 0
GivesNext old (Some instant) new =
    (old.left ≡ instant ∷ new.left) × (new.stop ≡ old.stop) × (new.stopped ≡ old.stopped)
GivesNext old None new =
    (old.left ≡ []) × (new.left ≡ []) × (new.stop ≡ old.stop) × (new.stopped ≡ old.stop)
