-- Ticks of 100 nanoseconds: how many whole ones a length of time has, and counts that lie so many apart.
use Rattle.std.specs.Prelude.{◌≡◌, ℕ, suc, ◌+◌, ◌*◌, ◌^◌, ◌<◌, ◌≤◌, ℤ, pos, negsuc}

-- so many ticks are within the nanoseconds, and one more is not
abbrev pub IsWholeTicks : ℕ → ℕ → Type 0
IsWholeTicks nanos ticks = (100 * ticks ≤ nanos) × (nanos < 100 * (ticks + 1))

-- `to` lies the whole ticks of so many nanoseconds after `from`
abbrev pub IsAfterBy : ℕ → ℕ → ℕ → Type 0
IsAfterBy nanos from to = (ticks : ℕ) × IsWholeTicks nanos ticks × (to ≡ from + ticks)

-- 64 bits hold the count that lies the whole ticks of so many nanoseconds after this one: the sum
-- stays before the tick that follows the last
abbrev pub CanAddTicks : ℕ → ℕ → Type 0
CanAddTicks ticks nanos = 100 * ticks + nanos < 100 * 2 ^ 64

-- there is a count that lies the whole ticks of so many nanoseconds before this one
abbrev pub CanSubTicks : ℕ → ℕ → Type 0
CanSubTicks ticks nanos = nanos < 100 * (ticks + 1)

-- `to` lies the whole ticks of a signed length after `from`, or before it where the length is
-- negative
abbrev pub IsMovedBy : ℤ → ℕ → ℕ → Type 0
IsMovedBy (pos nanos) from to = IsAfterBy nanos from to
IsMovedBy (negsuc n) from to = IsAfterBy (suc n) to from

-- 64 bits hold that count
abbrev pub CanMoveTicks : ℕ → ℤ → Type 0
CanMoveTicks ticks (pos nanos) = CanAddTicks ticks nanos
CanMoveTicks ticks (negsuc n) = CanSubTicks ticks (suc n)
