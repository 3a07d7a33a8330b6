-- What a call of a source or a sink does to its counts, which have 64 bits and stand still at their greatest value.
use Rattle.std.specs.Prelude.{◌≡◌, ℕ, ◌+◌, ◌-◌, ◌^◌, ◌<◌, ◌≤◌, min, List, ◌++◌, length, Option, Result, IfOk, OnErr}
use Rattle.std.specs.Io.KnownBytes.{Appends, Consumes}

-- a count of faults went up in a call, or stands at its greatest value
abbrev pub Rose : ℕ → ℕ → Type 0
Rose before now = min (before + 1) (2 ^ 64 - 1) ≤ now

-- a count of faults doesn't fall, and went up where the call failed
pub record HasCause {T E : Type 0} (before now : ℕ) (result : Result T E) : Type 0 where
  pub later : before ≤ now
  pub failed : OnErr result (Rose before now)

-- the count of bytes taken goes up by the bytes that a read gave, where it has room for as many as it could give
pub record CountsTaken {E : Type 0} (before now room : ℕ) (result : Result ℕ E) : Type 0 where
  pub ok : before + room < 2 ^ 64 → IfOk result (λ n. now ≡ before + n)
  pub err : OnErr result (now ≡ before)

-- a write takes none of a piece only where there is none
abbrev pub TakesSome : {E : Type 0} → List ℕ → Result ℕ E → Type 0
TakesSome piece result = IfOk result (λ n. n ≡ 0 → length piece ≡ 0)

-- what a source gave: some bytes of those left, at most so many, and the count of bytes taken goes up by as many
pub record Gives (left left_after : Option (List ℕ)) (taken taken_after most : ℕ) : Type 0 where
  pub given : List ℕ
  pub bytes : Consumes left left_after given
  pub count : taken < 2 ^ 63 → taken_after ≡ taken + length given
  pub bound : length given ≤ most

-- known bytes grow by a front of a text
pub record AppendsFront (old new : Option (List ℕ)) (text : List ℕ) : Type 0 where
  pub front : List ℕ
  pub back : List ℕ
  pub split : text ≡ front ++ back
  pub written : Appends old new front
