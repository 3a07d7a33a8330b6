-- Windows file times, as Microsoft's "File Times" and `FILETIME` have them: a count of ticks of 100
-- nanoseconds since 1601-01-01 00:00:00 UTC, in 64 bits.
use Rattle.std.specs.Prelude.{◌≡◌, ℕ, ◌+◌, ◌*◌, ◌^◌, ◌<◌, ℤ, pos, ◌-ℤ◌}

-- a count that 64 bits hold
abbrev pub IsFileTime : ℕ → Type 0
IsFileTime ticks = ticks < 2 ^ 64

-- the Unix time of so many ticks in nanoseconds: 1970 begins 11_644_473_600 seconds after 1601
abbrev pub unix_nanos : ℕ → ℤ
unix_nanos ticks = pos (100 * ticks) -ℤ pos (11_644_473_600 * 10 ^ 9)

-- the high and the low 32 bits of a count
abbrev pub HasParts : ℕ → ℕ → ℕ → Type 0
HasParts ticks high low = (ticks ≡ high * 2 ^ 32 + low) × (high < 2 ^ 32) × (low < 2 ^ 32)
