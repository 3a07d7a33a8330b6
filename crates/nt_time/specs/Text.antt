-- The text of a file time, since `FILETIME` itself has none: its raw count in decimal digits, as the Rust crate `nt-time` has it.
use Rattle.std.specs.Prelude.{◌≡◌, ◌≢◌, ℕ, ◌^◌, ◌<◌, ◌≤◌, ◌⊎◌, ◌↔◌, List, [], ◌++◌, length, codes, Result, Ok, IfOk, IsErrOf}
use Rattle.scan_core.specs.Digits.{AreDigits, number_of}
use Rattle.nt_time.specs.declared.error.ParseFileTimeCause.{ParseFileTimeCause}
use Rattle.nt_time.specs.declared.error.ParseFileTimeCause.TheVariants.{Empty, InvalidDigit, Overflow}

-- the text is one decimal digit or more, with a plus before them or without, and they write n
abbrev pub IsTextOf : List ℕ → ℕ → Type 0
IsTextOf text n =
    (digits : List ℕ) × ((0 < length digits) × AreDigits digits) × (n ≡ number_of digits)
    × ((text ≡ digits) ⊎ (text ≡ codes "+" ++ digits))

-- the raw count that the text writes, or why there is none: the grammar comes before the size
pub record IsReadFrom (text : List ℕ) (result : Result ℕ ParseFileTimeCause) : Type 0 where
  pub ok : IfOk result (IsTextOf text)
  pub fits : IfOk result (λ n. n < 2 ^ 64)
  pub all : (n : ℕ) → IsTextOf text n → n < 2 ^ 64 → result ≡ Ok n
  pub empty : IsErrOf result Empty ↔ (text ≡ [])
  pub invalid : IsErrOf result InvalidDigit ↔ ((text ≢ []) × ((n : ℕ) → ¬ IsTextOf text n))
  pub overflow : IsErrOf result Overflow ↔ ((n : ℕ) × IsTextOf text n × (2 ^ 64 ≤ n))
