-- The digits of a fraction of a second.
use Rattle.std.specs.Prelude.{◌≡◌, ℕ, ◌-◌, ◌<◌, ◌≤◌, List, ◌++◌, length, replicate}
use Rattle.scan_core.specs.Digits.{number_of}

-- one to six digits, in microseconds
abbrev pub AreMicros : List ℕ → ℕ → Type 0
AreMicros digits micros =
    ((0 < length digits) × (length digits ≤ 6))
    × (micros ≡ number_of (digits ++ replicate (6 - length digits) 48))
