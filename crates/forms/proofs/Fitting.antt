-- Widths of signed numbers, and their order.
use Rattle.std.proofs.Common.{FitsSigned, w32, w64, arith}
use Rattle.std.specs.Prelude.{ℤ, pos, negsuc, ◌≤ℤ◌, ◌<ℤ◌}
use Rattle.std.proofs.lemmas.Int.{ints}

-- 64 bits hold what 32 bits do
pub widen : (z : ℤ) → FitsSigned w32 z → FitsSigned w64 z
widen (pos n) h = record { sfits = let less = h.sfits in omega arith }
widen (negsuc n) h = record { sfits = let less = h.sfits in omega arith }

pub less : (a b : ℤ) → (a ≤ℤ b → ⊥) → b <ℤ a
less a b isnt = grind (arith, ints)

pub no_more : (a b : ℤ) → (a <ℤ b → ⊥) → b ≤ℤ a
no_more a b isnt = grind (arith, ints)
