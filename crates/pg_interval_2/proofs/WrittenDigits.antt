-- What written digits read back as: a number's digits, with leading zeros or not, and six digits behind a point.
use Rattle.std.proofs.Common.{◌≡◌, ℕ, ◌<◌, arith, ◌∙◌}
use Rattle.scan_core.specs.Padded.{padded_digits}
use Rattle.scan_core.specs.Shares.{rounded}
use Rattle.scan_core.proofs.RoundingFacts.{rounded_six}
use Rattle.scan_core.proofs.PaddedFacts.{number_of-padded, length-padded}
use Rattle.pg_interval_2.proofs.Widths.{length_decimal_micros}

-- six fraction digits of a second are its microseconds
pub rounded-padded : (n : ℕ) → n < 1_000_000 → rounded 1_000_000 (padded_digits 6 n) ≡ n
rounded-padded n small =
    rounded_six (padded_digits 6 n) (omega (arith, length-padded 6 n, length_decimal_micros n small)) ∙ number_of-padded 6 n (omega arith)
