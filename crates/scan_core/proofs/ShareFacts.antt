-- Which parts of a share fit their types: the parts beside a unit's main one always do.
use Rattle.std.proofs.Common.{◌≡◌, ◌≢◌, ℕ, zero, suc, ◌*◌, ◌^◌, ◌<◌, ◌≤◌, ◌⊎◌, Bool, true, false, List, ap, arith, inl, inr, refl, subst}
use Rattle.std.proofs.Common.{sym}
use Rattle.std.proofs.lemmas.Bool.Decides.{nat_tests}
use Rattle.scan_core.specs.Count.{Count}
use Rattle.scan_core.specs.Digits.{AreDigits, number_of}
use Rattle.scan_core.specs.Shares.{amount, fits_type, is_within, main_part, rounded, share, signed}
use Rattle.scan_core.specs.ShareSteps.{magnitude, scale_of}
use Rattle.scan_core.specs.declared.share.Part.{Part}
use Rattle.scan_core.specs.declared.share.Part.TheVariants.{Days, Micros, Months}
use Rattle.scan_core.specs.declared.share.Unit.{Unit as TimeUnit}
use Rattle.scan_core.specs.declared.share.Unit.TheVariants.{Day, Hour, Minute, Month, Second, Week, Year}
use Rattle.scan_core.proofs.RoundingFacts.{rounded-le}

-- ---- a share in two steps

pub amount-steps : (part : Part) (unit : TimeUnit) (w : ℕ) (f : List ℕ)
    → amount part unit w f ≡ magnitude part unit w (rounded (scale_of unit) f)
amount-steps Months Year w f = refl
amount-steps Months Month w f = refl
amount-steps Months Week w f = refl
amount-steps Months Day w f = refl
amount-steps Months Hour w f = refl
amount-steps Months Minute w f = refl
amount-steps Months Second w f = refl
amount-steps Days Year w f = refl
amount-steps Days Month w f = refl
amount-steps Days Week w f = refl
amount-steps Days Day w f = refl
amount-steps Days Hour w f = refl
amount-steps Days Minute w f = refl
amount-steps Days Second w f = refl
amount-steps Micros Year w f = refl
amount-steps Micros Month w f = refl
amount-steps Micros Week w f = refl
amount-steps Micros Day w f = refl
amount-steps Micros Hour w f = refl
amount-steps Micros Minute w f = refl
amount-steps Micros Second w f = refl

pub share-steps : (part : Part) (c : Count) → share part c ≡ signed c.negative
    (magnitude part c.unit (number_of c.whole) (rounded (scale_of c.unit) c.fraction))
share-steps part c = ap (signed c.negative) (amount-steps part c.unit (number_of c.whole) c.fraction)

-- ---- a magnitude below half of the type's range fits with either sign

pub small_32 : (negative : Bool) (n : ℕ) → n < 2 ^ 31 → is_within 32 (signed negative n) ≡ true
small_32 false n h = grind (arith, nat_tests)
small_32 true zero h = refl
small_32 true (suc n) h = grind (arith, nat_tests)

pub small_64 : (negative : Bool) (n : ℕ) → n < 2 ^ 63 → is_within 64 (signed negative n) ≡ true
small_64 false n h = grind (arith, nat_tests)
small_64 true zero h = refl
small_64 true (suc n) h = grind (arith, nat_tests)

-- ---- the parts beside the main one

main_or_fits : (part : Part) (unit : TimeUnit) (negative : Bool) (w r : ℕ) → r ≤ scale_of unit
    → (part ≡ main_part unit) ⊎ (fits_type part (signed negative (magnitude part unit w r)) ≡ true)
main_or_fits Months Year negative w r h = inl refl
main_or_fits Months Month negative w r h = inl refl
main_or_fits Months Week negative w r h = inr (small_32 negative 0 (omega arith))
main_or_fits Months Day negative w r h = inr (small_32 negative 0 (omega arith))
main_or_fits Months Hour negative w r h = inr (small_32 negative 0 (omega arith))
main_or_fits Months Minute negative w r h = inr (small_32 negative 0 (omega arith))
main_or_fits Months Second negative w r h = inr (small_32 negative 0 (omega arith))
main_or_fits Days Year negative w r h = inr (small_32 negative 0 (omega arith))
main_or_fits Days Month negative w r h = inr (small_32 negative r (omega arith))
main_or_fits Days Week negative w r h = inl refl
main_or_fits Days Day negative w r h = inl refl
main_or_fits Days Hour negative w r h = inr (small_32 negative 0 (omega arith))
main_or_fits Days Minute negative w r h = inr (small_32 negative 0 (omega arith))
main_or_fits Days Second negative w r h = inr (small_32 negative 0 (omega arith))
main_or_fits Micros Year negative w r h = inr (small_64 negative 0 (omega arith))
main_or_fits Micros Month negative w r h = inr (small_64 negative 0 (omega arith))
main_or_fits Micros Week negative w r h = inr (small_64 negative 0 (omega arith))
main_or_fits Micros Day negative w r h = inr (small_64 negative (r * 3_600_000_000) (omega arith))
main_or_fits Micros Hour negative w r h = inl refl
main_or_fits Micros Minute negative w r h = inl refl
main_or_fits Micros Second negative w r h = inl refl

main_or_part_fits : (part : Part) (c : Count) → AreDigits c.fraction → (part ≡ main_part c.unit) ⊎ (fits_type part (share part c) ≡ true)
main_or_part_fits part c digits =
    rw (share-steps part c)
    (main_or_fits part c.unit c.negative (number_of c.whole) (rounded (scale_of c.unit) c.fraction)
    (rounded-le (scale_of c.unit) c.fraction digits))

-- a part beside the main one fits
pub other_part_fits : (part : Part) (c : Count) → AreDigits c.fraction → part ≢ main_part c.unit → fits_type part (share part c) ≡ true
other_part_fits part c digits other =
    elim (main_or_part_fits part c digits) [
      | inl same ↦ absurd (other same)
      | inr fits ↦ fits
    ]

-- each part fits where the main one does
pub each_part_fits : (part : Part) (c : Count) → AreDigits c.fraction → fits_type (main_part c.unit) (share (main_part c.unit) c) ≡ true
    → fits_type part (share part c) ≡ true
each_part_fits part c digits main =
    elim (main_or_part_fits part c digits) [
      | inl same ↦ subst (λ (p : Part). fits_type p (share p c) ≡ true) (sym same) main
      | inr fits ↦ fits
    ]
