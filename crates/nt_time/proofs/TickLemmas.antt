-- Moves forward and back, by the sign of the length.
use Rattle.std.proofs.Common.{◌≡◌, ℕ, zero, suc, ℤ, pos, negsuc, neg_ℤ, unsigned_abs, ◌<ℤ◌, ◌≤ℤ◌, Option, None, Some, IfSome, Bool, false}
use Rattle.std.proofs.Common.{true, IsTrue, ◌↔◌, sym, ◌∙◌, arith}
use Rattle.std.proofs.lemmas.Bool.{false≢true}
use Rattle.std.proofs.lemmas.Int.{ints, by_lt_z}
use Rattle.nt_time.specs.Ticks.{IsAfterBy, IsMovedBy}

-- a test for negative lengths that is false
pub not_negative : (test : Bool) (z : ℤ) → (IsTrue test ↔ (z <ℤ pos 0)) → test ≡ false → pos 0 ≤ℤ z
not_negative test z tells isnt = by_lt_z z (pos 0) (λ negative. let is : test
    ≡ true = tells.1 negative in absurd (false≢true (sym isnt ∙ is))) (λ h. h)

-- no time later is no time earlier
same_moment : (from to : ℕ) → IsAfterBy 0 to from → IsAfterBy 0 from to
same_moment from to back = (back.0, back.1, omega arith)

pub moved_forward : (z : ℤ) (from : ℕ) (r : Option ℕ) → pos 0 ≤ℤ z
    → IfSome r (IsAfterBy (unsigned_abs z) from) → IfSome r (IsMovedBy z from)
moved_forward (pos n) from r h moved = moved
moved_forward (negsuc n) from r h moved = absurd (omega (arith, ints))

pub moved_back : (z : ℤ) (from : ℕ) (r : Option ℕ) → z <ℤ pos 0
    → IfSome r (λ to. IsAfterBy (unsigned_abs z) to from) → IfSome r (IsMovedBy z from)
moved_back (pos n) from r h moved = absurd (omega (arith, ints))
moved_back (negsuc n) from r h moved = moved

-- the same by the negated length
pub moved_forward-neg : (z : ℤ) (from : ℕ) (r : Option ℕ) → z <ℤ pos 0
    → IfSome r (IsAfterBy (unsigned_abs z) from) → IfSome r (IsMovedBy (neg_ℤ z) from)
moved_forward-neg (pos n) from r h moved = absurd (omega (arith, ints))
moved_forward-neg (negsuc n) from r h moved = moved

pub moved_back-neg : (z : ℤ) (from : ℕ) (r : Option ℕ) → pos 0 ≤ℤ z
    → IfSome r (λ to. IsAfterBy (unsigned_abs z) to from) → IfSome r (IsMovedBy (neg_ℤ z) from)
moved_back-neg (pos zero) from None h moved = moved
moved_back-neg (pos zero) from (Some to) h moved = same_moment from to moved
moved_back-neg (pos (suc n)) from r h moved = moved
moved_back-neg (negsuc n) from r h moved = absurd (omega (arith, ints))
