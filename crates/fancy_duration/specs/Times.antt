-- Lengths as seconds and nanoseconds below a second, and as nanoseconds alone.
use Rattle.std.specs.Prelude.{ℕ, ◌+◌, ◌*◌, ◌/◌, ◌%◌}

-- seconds and nanoseconds as nanoseconds alone
abbrev pub nanos_of : ℕ × ℕ → ℕ
nanos_of times = times.0 * 1_000_000_000 + times.1

-- nanoseconds as whole seconds and those beyond
abbrev pub times_of : ℕ → ℕ × ℕ
times_of nanos = (nanos / 1_000_000_000, nanos % 1_000_000_000)
