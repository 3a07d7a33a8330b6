-- The binary form of an interval, the 16 bytes that PostgreSQL's `interval_send` writes and its `COPY BINARY` holds.
use Rattle.std.specs.Prelude.{ℕ, ℤ, List, ◌++◌}
use Rattle.std.specs.Int.{Width, w32, w64, to_be_bytes, cast_unsigned}
use Rattle.pg_interval_2.specs.declared.interval.Interval.{Interval}

-- a number in two's complement, the highest byte first
abbrev pub big_endian : Width → ℤ → List ℕ
big_endian w z = to_be_bytes w (cast_unsigned w z)

-- 8 bytes of microseconds, 4 of days and 4 of months
abbrev pub cell : Interval → List ℕ
cell t = big_endian w64 t.microseconds ++ (big_endian w32 t.days ++ big_endian w32 t.months)
