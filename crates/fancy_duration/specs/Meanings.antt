-- What a text denotes: the seconds and nanoseconds of its sum.
use Rattle.std.specs.Prelude.{ℕ, ◌/◌, ◌<◌, ◌≤◌, ◌^◌, ◌↔◌, List, Result, IfOk, IsErrOf}
use Rattle.fancy_duration.specs.declared.error.FancyError.{FancyError}
use Rattle.fancy_duration.specs.declared.error.FancyError.TheVariants.{TooBig, NotHeld}
use Rattle.fancy_duration.specs.Times.{nanos_of}
use Rattle.fancy_duration.specs.Sums.{SumsTo}

-- the text's sum is these seconds and nanoseconds, and the seconds are no more than 64 bits hold
pub record Denotes (text : List ℕ) (times : ℕ × ℕ) : Type 0 where
  pub sums : SumsTo text (nanos_of times)
  pub seconds : times.0 < 2 ^ 64
  pub nanoseconds : times.1 < 1_000_000_000

-- the text's sum has more whole seconds than 64 bits hold
pub record IsTooBig (text : List ℕ) : Type 0 where
  pub nanos : ℕ
  pub sums : SumsTo text nanos
  pub beyond : 2 ^ 64 ≤ nanos / 1_000_000_000

-- the text denotes a pair that a type doesn't hold
pub record IsNotHeld (holds : ℕ → ℕ → Type 0) (text : List ℕ) : Type 0 where
  pub times : ℕ × ℕ
  pub denoted : Denotes text times
  pub refused : ¬ (holds times.0 times.1)

-- what a parser of a type answers, where the type's values have these times and it holds these
-- pairs
pub record Parses {T : Type 0} (times : T → ℕ × ℕ) (holds : ℕ → ℕ → Type 0) (text : List ℕ)
    (result : Result T FancyError) : Type 0 where
  pub ok : IfOk result (λ d. Denotes text (times d))
  pub held : IfOk result (λ d. holds (times d).0 (times d).1)
  pub too_big : IsErrOf result TooBig ↔ IsTooBig text
  pub not_held : IsErrOf result NotHeld ↔ IsNotHeld holds text
