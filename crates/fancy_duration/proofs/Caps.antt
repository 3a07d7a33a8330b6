-- Numbers that are held at a greatest one: a sum and a product may be held at each step.
use Rattle.std.proofs.Common.{◌≡◌, ℕ, ◌+◌, ◌*◌, min, List, [], ◌∷◌, sym, ◌∙◌, ap, arith}
use Rattle.std.specs.Str.Parse.{digits_value_after}
use Rattle.std.specs.Char.{digit_value}

-- the digits that follow a held number
pub min_digits : (ds : List ℕ) (n m : ℕ)
    → min (digits_value_after 10 (min n m) ds) m ≡ min (digits_value_after 10 n ds) m
min_digits [] n m = omega arith
min_digits (d ∷ ds) n m =
    sym (min_digits ds (min n m * 10 + digit_value d) m) ∙ ap (λ k. min (digits_value_after 10 k ds) m) (same_push n m (digit_value d))
    ∙ min_digits ds (n * 10 + digit_value d) m
  where
    same_push : (n m d : ℕ) → min (min n m * 10 + d) m ≡ min (n * 10 + d) m
    same_push n m d = omega arith

-- one more digit at a held number
pub min_digit : (d n next m : ℕ) (ds : List ℕ) → next ≡ min (n * 10 + digit_value d) m
    → min (digits_value_after 10 next ds) m ≡ min (digits_value_after 10 n (d ∷ ds)) m
min_digit d n next m ds e = rw e (min_digits ds (n * 10 + digit_value d) m)
