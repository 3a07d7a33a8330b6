-- What sums over so many adds can reach: the invariant of `Totals` cites this, and no public contract.
use Rattle.std.specs.Prelude.{ℕ, ◌*◌, ◌^◌, ℤ, pos, neg_ℤ, ◌≤ℤ◌}

-- the sum of this many numbers of 64 bits
abbrev pub IsBounded : ℕ → ℤ → Type 0
IsBounded adds sum = (neg_ℤ (pos (adds * 2 ^ 63)) ≤ℤ sum) × (sum ≤ℤ pos (adds * 2 ^ 63))
