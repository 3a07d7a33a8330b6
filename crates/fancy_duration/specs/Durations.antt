-- What std's `Duration` shows as seconds and nanoseconds.
use Rattle.std.specs.Prelude.{ℕ, ◌+◌, ◌/◌, ◌<◌, ◌≤◌, ◌^◌, ◌⊎◌}
use Rattle.std.specs.Duration.{as_nanos}
use Rattle.std.specs.declared.time.Duration.{Duration}
use Rattle.fancy_duration.specs.Times.{nanos_of, times_of}

-- the whole seconds of a duration and its nanoseconds beyond them
abbrev pub duration_times : Duration → ℕ × ℕ
duration_times d = times_of (as_nanos d)

-- A pair that a duration can be made of: its nanoseconds are in 32 bits and the whole seconds in
-- 64. The second case is the condition that the trait has for every type; each pair that meets it
-- meets the first case too, where `from` has its seconds in 64 bits.
abbrev pub CanMake : Duration → ℕ → ℕ → Type 0
CanMake from secs nanos =
    ((nanos < 2 ^ 32) × (secs + nanos / 1_000_000_000 < 2 ^ 64))
    ⊎ ((nanos < 1_000_000_000) × (nanos_of (secs, nanos) ≤ nanos_of (duration_times from)))
