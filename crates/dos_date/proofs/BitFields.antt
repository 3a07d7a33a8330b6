-- Bits beside each other make the sum of their fields.
use Rattle.std.proofs.Common.{◌≡◌, ℕ, ◌+◌, ◌*◌, ◌^◌, ◌<◌, bit_or, arith}
use Rattle.std.proofs.lemmas.Nat.{or_shifted}

-- three fields, the lowest of 5 bits, and a middle one that stays below bit k
pub or_fields : (k high middle low : ℕ) → low < 2 ^ 5 → middle * 2 ^ 5 + low < 2 ^ k
    → bit_or (high * 2 ^ k) (bit_or (middle * 2 ^ 5) low) ≡ high * 2 ^ k + middle * 2 ^ 5 + low
or_fields k high middle low small below =
    rw (or_shifted middle 5 low small, or_shifted high k (middle * 2 ^ 5 + low) below) (omega arith)
