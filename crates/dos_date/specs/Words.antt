-- What contracts see of a DOS date-time.
use Rattle.std.specs.Prelude.{ℕ}

-- a date word and a time word
pub record Words : Type 0 where
  pub date : ℕ
  pub time : ℕ
