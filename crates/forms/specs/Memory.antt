-- What is seen of a source and of a sink in memory.
use Rattle.std.specs.Prelude.{ℕ, ◌+◌, ◌-◌, ◌^◌, min, List, ◌++◌, length, drop}

-- a count of 64 bits after it went up by n
abbrev pub counted_up : ℕ → ℕ → ℕ
counted_up count n = min (count + n) (2 ^ 64 - 1)

-- a source: the bytes still to come, how many were taken, and how many calls were made and failed;
-- each read gives at most `cut` bytes, and the calls with the numbers in `fails`, from 0, fail
pub record SourceState : Type 0 where
  pub left : List ℕ
  pub taken : ℕ
  pub faults : ℕ
  pub calls : ℕ
  pub cut : ℕ
  pub fails : List ℕ

-- a sink: the bytes held, the room for further ones, and how many calls were made and failed;
-- each write takes at most `cut` bytes, and the calls with the numbers in `fails`, from 0, fail
pub record SinkState : Type 0 where
  pub held : List ℕ
  pub room : ℕ
  pub faults : ℕ
  pub calls : ℕ
  pub cut : ℕ
  pub fails : List ℕ

-- a source after a read that gave n bytes
abbrev pub after_read : SourceState → ℕ → SourceState
after_read s n = record s {
  left = drop n s.left;
  taken = counted_up s.taken n;
  calls = counted_up s.calls 1;
}

-- a source after a read that failed
abbrev pub after_failed_read : SourceState → SourceState
after_failed_read s = record s { faults = counted_up s.faults 1; calls = counted_up s.calls 1 }

-- how many bytes a read into this many gives where it doesn't fail
abbrev pub read_len : SourceState → ℕ → ℕ
read_len s room = min (min s.cut room) (length s.left)

-- a sink after a write that took these bytes
abbrev pub after_write : SinkState → List ℕ → SinkState
after_write s front = record s {
  held = s.held ++ front;
  room = s.room - length front;
  calls = counted_up s.calls 1;
}

-- a sink after a write that failed
abbrev pub after_failed_write : SinkState → SinkState
after_failed_write s = record s { faults = counted_up s.faults 1; calls = counted_up s.calls 1 }

-- how many bytes of a piece of this many a write takes where it doesn't fail
abbrev pub write_len : SinkState → ℕ → ℕ
write_len s len = min (min s.cut s.room) len
