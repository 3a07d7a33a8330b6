-- Lists of counts of which one part fits and adds up to a number.
use Rattle.std.proofs.Common.{◌≡◌, ℕ, true, IsTrue, List, [], ◌∷◌, ◌++◌, ℤ, pos, ◌+ℤ◌, refl, ◌∙◌, arith}
use Rattle.std.proofs.lemmas.Int.{ints}
use Rattle.std.proofs.lemmas.Bool.{and_from}
use Rattle.std.proofs.lemmas.List.Folds.{list_all-append}
use Rattle.scan_core.specs.Count.{Count}
use Rattle.scan_core.specs.Digits.{number_of}
use Rattle.scan_core.specs.Shares.{signed, rounded, fits_type}
use Rattle.scan_core.specs.ShareSteps.{magnitude, scale_of}
use Rattle.scan_core.specs.Sums.{total, part_fits}
use Rattle.scan_core.specs.declared.share.Part.{Part}
use Rattle.scan_core.proofs.ShareFacts.{share-steps}
use Rattle.scan_core.proofs.SumFacts.{total-append}
use Rattle.pg_interval_2.specs.inside.Tallies.{each_fits}

-- this part of each count fits, and their sum is this number
pub record AddsUp (part : Part) (counts : List Count) (sum : ℤ) : Type 0 where
  pub each : IsTrue (each_fits part counts)
  pub total_is : total part counts ≡ sum

pub AddsUp-append : (part : Part) (xs ys : List Count) (y z : ℤ) → AddsUp part xs y → AddsUp part ys z → AddsUp part (xs ++ ys) (y +ℤ z)
AddsUp-append part xs ys y z h k = record {
  each = list_all-append _ xs ys ∙ and_from _ _ h.each k.each;
  total_is = cc (total-append part xs ys);
}

pub AddsUp-nil : (part : Part) → AddsUp part [] (pos 0)
AddsUp-nil part = record { each = refl; total_is = refl }

-- one count, by the numbers of its digits
pub AddsUp-one : (part : Part) (c : Count) (w r : ℕ) → number_of c.whole ≡ w → rounded (scale_of c.unit) c.fraction ≡ r
    → IsTrue (fits_type part (signed c.negative (magnitude part c.unit w r)))
    → AddsUp part (c ∷ []) (signed c.negative (magnitude part c.unit w r))
AddsUp-one part c w r whole fraction fits = record {
  each = rw (share-steps part c, whole, fraction) (and_from _ true fits refl);
  total_is = rw (share-steps part c, whole, fraction) (omega (arith, ints));
}

-- the same number by another name
pub AddsUp-same : (part : Part) (counts : List Count) (y z : ℤ) → AddsUp part counts y → y ≡ z → AddsUp part counts z
AddsUp-same part counts y z h e = record { each = h.each; total_is = h.total_is ∙ e }

pub part_fits-AddsUp : (part : Part) (counts : List Count) (z : ℤ) → AddsUp part counts z → IsTrue (fits_type part z)
    → IsTrue (part_fits part counts)
part_fits-AddsUp part counts z h fits = and_from _ _ h.each (rw h.total_is fits)
