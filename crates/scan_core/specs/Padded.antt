-- Decimal digits with leading zeros, and digits without the zeros at their end.
use Rattle.std.specs.Prelude.{ℕ, ◌-◌, ◌==◌, List, [], ◌∷◌, ◌++◌, length, replicate, decimal, if◌then◌else◌}

-- the digits of n, with leading zeros to at least this width
abbrev pub padded_digits : ℕ → ℕ → List ℕ
padded_digits width n = replicate (width - length (decimal n)) 48 ++ decimal n

-- a byte in front of digits whose zeros at the end were dropped; a zero in front of nothing is dropped too
abbrev pub onto_trimmed : ℕ → List ℕ → List ℕ
onto_trimmed b [] = if b == 48 then [] else (b ∷ [])
onto_trimmed b (c ∷ cs) = b ∷ (c ∷ cs)

-- without the zeros at the end
abbrev pub trimmed_digits : List ℕ → List ℕ
trimmed_digits [] = []
trimmed_digits (b ∷ bs) = onto_trimmed b (trimmed_digits bs)
