-- A number by its sign and magnitude.
use Rattle.std.proofs.Common.{◌≡◌, ℕ, zero, suc, ◌+◌, ◌≤◌, ◌^◌, ◌-◌, Bool, true, false, IsTrue, ℤ, pos, negsuc, ◌+ℤ◌, unsigned_abs, int_eq}
use Rattle.std.proofs.Common.{refl, ap, arith, lt-ltb, ltb-true}
use Rattle.std.proofs.lemmas.Int.{ints}
use Rattle.std.proofs.lemmas.Bool.Decides.{Decides-int_eq, nat_tests}
use Rattle.std.specs.Int.{is_negative}
use Rattle.scan_core.specs.Shares.{signed, is_within, fits_type}
use Rattle.scan_core.specs.declared.share.Part.{Part}
use Rattle.scan_core.specs.declared.share.Part.TheVariants.{Months, Days, Micros}

pub signed-zero : (negative : Bool) → signed negative 0 ≡ pos 0
signed-zero true = refl
signed-zero false = refl

pub signed-add : (negative : Bool) (m n : ℕ) → signed negative m +ℤ signed negative n ≡ signed negative (m + n)
signed-add true m n = omega (arith, ints)
signed-add false m n = refl

pub is_negative-pos : (n : ℕ) → is_negative (pos n) ≡ false
is_negative-pos n = grind (arith, nat_tests)

pub signed-abs : (z : ℤ) → signed (is_negative z) (unsigned_abs z) ≡ z
signed-abs (pos n) = rw is_negative-pos refl
signed-abs (negsuc n) = refl

-- the sign serves the number: it is the number's own, or the number is 0
abbrev pub Serves : Bool → ℤ → Type 0
Serves negative z = signed negative (unsigned_abs z) ≡ z

-- a number of smaller magnitude and the same sign is within the same type
is_within-le : (bits : ℕ) (negative : Bool) (m n : ℕ) → m ≤ n → IsTrue (is_within bits (signed negative n))
    → IsTrue (is_within bits (signed negative m))
is_within-le bits false m n below within = lt-ltb _ _ (omega (arith, ltb-true _ _ within))
is_within-le bits true zero zero below within = within
is_within-le bits true zero (suc n) below within = lt-ltb _ _ (omega (arith, ltb-true _ _ within))
is_within-le bits true (suc m) zero below within = absurd (omega arith)
is_within-le bits true (suc m) (suc n) below within = lt-ltb _ _ (omega (arith, ltb-true _ _ within))

fits_type-le : (part : Part) (negative : Bool) (m n : ℕ) → m ≤ n → IsTrue (fits_type part (signed negative n))
    → IsTrue (fits_type part (signed negative m))
fits_type-le Months negative m n below within = is_within-le 32 negative m n below within
fits_type-le Days negative m n below within = is_within-le 32 negative m n below within
fits_type-le Micros negative m n below within = is_within-le 64 negative m n below within

pub fits_type-serves : (part : Part) (negative : Bool) (z : ℤ) (m : ℕ) → Serves negative z → m ≤ unsigned_abs z → IsTrue (fits_type part z)
    → IsTrue (fits_type part (signed negative m))
fits_type-serves part negative z m serves below within = fits_type-le part negative m (unsigned_abs z) below (rw serves within)

pub fits_type-smaller : (part : Part) (z : ℤ) (m : ℕ) → m ≤ unsigned_abs z → IsTrue (fits_type part z)
    → IsTrue (fits_type part (signed (is_negative z) m))
fits_type-smaller part z m below within = fits_type-serves part (is_negative z) z m (signed-abs z) below within

pub fits_type-zero : (part : Part) → IsTrue (fits_type part (pos 0))
fits_type-zero Months = refl
fits_type-zero Days = refl
fits_type-zero Micros = refl

pub fits_type-signed_zero : (part : Part) (negative : Bool) → IsTrue (fits_type part (signed negative 0))
fits_type-signed_zero part negative = rw signed-zero (fits_type-zero part)

-- the magnitude of a number of a part's type
abs_within : (bits : ℕ) (z : ℤ) → IsTrue (is_within bits z) → unsigned_abs z ≤ 2 ^ (bits - 1)
abs_within bits (pos n) within = omega (arith, ltb-true _ _ within)
abs_within bits (negsuc n) within = omega (arith, ltb-true _ _ within)

pub abs_fits : (part : Part) (z : ℤ) → IsTrue (fits_type part z) → unsigned_abs z ≤ 2 ^ 63
abs_fits Months z within = omega (arith, abs_within 32 z within)
abs_fits Days z within = omega (arith, abs_within 32 z within)
abs_fits Micros z within = abs_within 64 z within

-- a number is the sum of magnitudes with its sign
pub signed_two : (z : ℤ) (m n : ℕ) → m + n ≡ unsigned_abs z → signed (is_negative z) m +ℤ signed (is_negative z) n ≡ z
signed_two z m n whole = rw (signed-add (is_negative z) m n, whole) (signed-abs z)

pub signed_three : (negative : Bool) (z : ℤ) (k m n : ℕ) → Serves negative z → k + (m + n) ≡ unsigned_abs z
    → signed negative k +ℤ (signed negative m +ℤ signed negative n) ≡ z
signed_three negative z k m n serves whole = rw (signed-add negative m n, signed-add negative k (m + n), whole) serves

pub int_eq-zero : (z : ℤ) → int_eq z (pos 0) ≡ true → z ≡ pos 0
int_eq-zero z h = (Decides-int_eq z (pos 0)).0 h

pub abs_zero : (z : ℤ) → unsigned_abs z ≡ 0 → z ≡ pos 0
abs_zero (pos n) none = ap pos none
abs_zero (negsuc n) none = absurd (omega arith)
