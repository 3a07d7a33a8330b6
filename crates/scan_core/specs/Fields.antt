-- Fields of dates and times: digits of a fixed number, which write a number within bounds (ISO 8601, RFC 3339 section 5.6).
use Rattle.std.specs.Prelude.{◌≡◌, ℕ, ◌≤◌, List, length}
use Rattle.scan_core.specs.Digits.{AreDigits, number_of}

-- this many digits, which write a number from lo to hi
pub record IsField (count lo hi : ℕ) (text : List ℕ) (value : ℕ) : Type 0 where
  pub long : length text ≡ count
  pub digits : AreDigits text
  pub number : value ≡ number_of text
  pub least : lo ≤ value
  pub most : value ≤ hi
