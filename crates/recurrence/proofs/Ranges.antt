-- Tests of ranges.
use Rattle.std.proofs.Common.{◌≡◌, Bool, true, false, not, ◌&&◌, ℤ, ◌≤ℤ◌, int_lt, refl, sym, true≢false, arith}
use Rattle.std.proofs.lemmas.Int.{ints}
use Rattle.jiff_core.specs.Calendar.{IsBetween}
use Rattle.recurrence.specs.inside.Steps.{is_between}

pub between_true : (low high z : ℤ) → IsBetween low high z → is_between low high z ≡ true
between_true low high z h = grind (arith, ints, h.0, h.1)

pub between_false : (low high z : ℤ) → (IsBetween low high z → ⊥) → is_between low high z ≡ false
between_false low high z h = grind (arith, ints)

neither : (p q : Bool) → (not p && not q) ≡ true → (p ≡ false) × (q ≡ false)
neither false false h = (refl, refl)
neither false true h = absurd (true≢false (sym h))
neither true q h = absurd (true≢false (sym h))

not_less : (a b : ℤ) → int_lt a b ≡ false → b ≤ℤ a
not_less a b h = grind (arith, ints)

pub between_is : (low high z : ℤ) → is_between low high z ≡ true → IsBetween low high z
between_is low high z h = let both = neither (int_lt z low) (int_lt high z) h in (not_less z low both.0, not_less high z both.1)
