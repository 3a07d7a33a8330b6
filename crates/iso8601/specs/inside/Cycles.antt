-- Years 400 apart have the same calendar. Cited by private contracts alone.
use Rattle.std.specs.Prelude.{◌≡◌, ℕ, ◌%◌, ◌==◌, Bool, ℤ, pos, unsigned_abs, ◌+ℤ◌, ◌*ℤ◌}

-- some whole cycles of 400 years later, or earlier
abbrev pub IsCycled : ℤ → ℤ → Type 0
IsCycled year later = (k : ℤ) × (later ≡ year +ℤ (pos 400 *ℤ k))

-- the year is a multiple of n
abbrev pub is_multiple : ℕ → ℤ → Bool
is_multiple n year = unsigned_abs year % n == 0
