-- How many bytes the pieces of a written text have at most.
use Rattle.std.proofs.Common.{ℕ, ◌<◌, ◌≤◌, length, decimal, arith}
use Rattle.std.proofs.lemmas.Fmt.{length-decimal-le}

-- microseconds of a second have six digits at most
pub length_decimal_micros : (n : ℕ) → n < 1_000_000 → length (decimal n) ≤ 6
length_decimal_micros n small = length-decimal-le 6 n (omega arith) (omega arith) (omega arith)
