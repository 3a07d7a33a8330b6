-- Parts of values of ISO 8601 by names that private contracts and proofs alone cite.
use Rattle.std.specs.Prelude.{ℕ, ◌+◌, ◌*◌}
use Rattle.iso8601.specs.declared.types.Time.{Time}

-- nanoseconds since midnight
abbrev pub clock_of : Time → ℕ
clock_of t = ((t.hour * 60 + t.minute) * 60 + t.second) * 1_000_000_000 + t.millisecond * 1_000_000

-- the microseconds of a time
abbrev pub micros_of : ℕ → ℕ → ℕ → ℕ → ℕ
micros_of hour minute second millisecond =
    ((hour * 60 + minute) * 60 + second) * 1_000_000 + millisecond * 1000
