-- A count: a decimal number of one unit of time, as the texts of intervals write it.
use Rattle.std.specs.Prelude.{ℕ, Bool, List}
use Rattle.scan_core.specs.declared.share.Unit.{Unit as TimeUnit}

-- the digits before the point, those behind it, and the unit that they count
pub record Count : Type 0 where
  pub negative : Bool
  pub whole : List ℕ
  pub fraction : List ℕ
  pub unit : TimeUnit

-- the count of these parts
abbrev pub count_of : Bool → List ℕ → List ℕ → TimeUnit → Count
count_of n w f u = record { negative = n; whole = w; fraction = f; unit = u }
