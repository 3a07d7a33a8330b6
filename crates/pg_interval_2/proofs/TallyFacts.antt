-- A tally with one more count.
use Rattle.std.proofs.Common.{◌≡◌, ℕ, ◌&&◌, Bool, true, false, List, [], ◌∷◌, ◌++◌, ℤ, pos, ◌+ℤ◌, refl, sym, ◌∙◌, ap, arith}
use Rattle.std.proofs.Math.Bool.{and-false, and-true}
use Rattle.std.proofs.lemmas.Bool.{both_ways}
use Rattle.std.proofs.lemmas.Int.{ints}
use Rattle.std.proofs.lemmas.List.Folds.{list_all-append}
use Rattle.scan_core.specs.Count.{Count, count_of}
use Rattle.scan_core.specs.Digits.{AreDigits}
use Rattle.scan_core.specs.Shares.{share, fits_type, main_part}
use Rattle.scan_core.specs.Sums.{total}
use Rattle.scan_core.specs.declared.share.Part.{Part}
use Rattle.scan_core.specs.declared.share.Part.TheVariants.{Months, Days, Micros}
use Rattle.scan_core.specs.declared.share.Unit.{Unit as TimeUnit}
use Rattle.scan_core.specs.declared.share.Unit.TheVariants.{Year, Month, Week, Day, Hour, Minute, Second}
use Rattle.scan_core.proofs.ShareFacts.{each_part_fits}
use Rattle.scan_core.proofs.SumFacts.{total_push}
use Rattle.scan_core.proofs.Signs.{signed-zero, fits_type-signed_zero}
use Rattle.pg_interval_2.specs.declared.reading.tally.Tally.{Tally}
use Rattle.pg_interval_2.specs.inside.Tallies.{Tallies, each_fits, marked}

each_fits_push : (part : Part) (counts : List Count) (c : Count)
    → each_fits part (counts ++ c ∷ []) ≡ (each_fits part counts && fits_type part (share part c))
each_fits_push part counts c = list_all-append _ counts (c ∷ [])
    ∙ ap (λ (b : Bool). each_fits part counts && b) (and-true (fits_type part (share part c)))

-- the new tally is the old one with a share that fits
pub record AddsShare (old new : Tally) (c : Count) : Type 0 where
  pub months_fit : new.months_fit ≡ old.months_fit
  pub days_fit : new.days_fit ≡ old.days_fit
  pub micros_fit : new.micros_fit ≡ old.micros_fit
  pub months : new.totals.months ≡ old.totals.months +ℤ share Months c
  pub days : new.totals.days ≡ old.totals.days +ℤ share Days c
  pub micros : new.totals.micros ≡ old.totals.micros +ℤ share Micros c

-- one more share that fits, at the end, changes nothing of whether each does
still_fits : (part : Part) (counts : List Count) (c : Count) → fits_type part (share part c) ≡ true
    → each_fits part (counts ++ c ∷ []) ≡ each_fits part counts
still_fits part counts c fits = each_fits_push part counts c ∙ (rw fits (and-true (each_fits part counts)))

pub tally_share : (old new : Tally) (counts : List Count) (c : Count) → AreDigits c.fraction
    → fits_type (main_part c.unit) (share (main_part c.unit) c) ≡ true → AddsShare old new c → Tallies old counts
    → Tallies new (counts ++ c ∷ [])
tally_share old new counts c digits fits adds h =
    let months = still_fits Months counts c (each_part_fits Months c digits fits) in
    let days = still_fits Days counts c (each_part_fits Days c digits fits) in
    let micros = still_fits Micros counts c (each_part_fits Micros c digits fits) in
    record {
      months = adds.months_fit ∙ h.months ∙ sym months;
      days = λ m. adds.days_fit ∙ h.days (sym months ∙ m) ∙ sym days;
      micros = λ m d. adds.micros_fit ∙ h.micros (sym months ∙ m) (sym days ∙ d) ∙ sym micros;
      month_sum = λ m. adds.months ∙ ap (λ (z : ℤ). z +ℤ share Months c) (h.month_sum (sym months ∙ m)) ∙ sym (total_push Months counts c);
      day_sum = λ m d. adds.days ∙ ap (λ (z : ℤ). z +ℤ share Days c) (h.day_sum (sym months ∙ m) (sym days ∙ d))
          ∙ sym (total_push Days counts c);
      micro_sum = λ m d u. adds.micros ∙ ap (λ (z : ℤ). z +ℤ share Micros c) (h.micro_sum (sym months ∙ m) (sym days ∙ d) (sym micros ∙ u))
          ∙ sym (total_push Micros counts c);
    }

pub off_unless : (x : Bool) → (x ≡ true → false ≡ true) → x ≡ false
off_unless true h = sym (h refl)
off_unless false h = refl

no_more_fits : (part : Part) (counts : List Count) (c : Count) → fits_type part (share part c) ≡ false
    → each_fits part (counts ++ c ∷ []) ≡ false
no_more_fits part counts c out = each_fits_push part counts c ∙ (rw out (and-false (each_fits part counts)))

-- a sum with a share of 0
same_total : (part : Part) (counts : List Count) (c : Count) → share part c ≡ pos 0 → total part counts ≡ total part (counts ++ c ∷ [])
same_total part counts c zero = let push = total_push part counts c in omega (arith, ints)

mark_months : (tally : Tally) (counts : List Count) (c : Count) → fits_type Months (share Months c) ≡ false → Tallies tally counts
    → Tallies (marked Months tally) (counts ++ c ∷ [])
mark_months tally counts c out h =
    let off = no_more_fits Months counts c out in
    record {
      months = sym off;
      days = λ m. absurd (both_ways _ off m);
      micros = λ m. absurd (both_ways _ off m);
      month_sum = λ m. absurd (both_ways _ off m);
      day_sum = λ m. absurd (both_ways _ off m);
      micro_sum = λ m. absurd (both_ways _ off m);
    }

mark_days : (tally : Tally) (counts : List Count) (c : Count) → fits_type Months (share Months c) ≡ true → share Months c ≡ pos 0
    → fits_type Days (share Days c) ≡ false → Tallies tally counts
    → Tallies (marked Days tally) (counts ++ c ∷ [])
mark_days tally counts c fits zero out h =
    let months = still_fits Months counts c fits in
    let off = no_more_fits Days counts c out in
    record {
      months = h.months ∙ sym months;
      days = λ m. sym off;
      micros = λ m d. absurd (both_ways _ off d);
      month_sum = λ m. h.month_sum (sym months ∙ m) ∙ same_total Months counts c zero;
      day_sum = λ m d. absurd (both_ways _ off d);
      micro_sum = λ m d. absurd (both_ways _ off d);
    }

mark_micros : (tally : Tally) (counts : List Count) (c : Count) → fits_type Months (share Months c) ≡ true → share Months c ≡ pos 0
    → fits_type Days (share Days c) ≡ true → share Days c ≡ pos 0 → fits_type Micros (share Micros c) ≡ false
    → Tallies tally counts → Tallies (marked Micros tally) (counts ++ c ∷ [])
mark_micros tally counts c month_fits month_zero day_fits day_zero out h =
    let months = still_fits Months counts c month_fits in
    let days = still_fits Days counts c day_fits in
    let off = no_more_fits Micros counts c out in
    record {
      months = h.months ∙ sym months;
      days = λ m. h.days (sym months ∙ m) ∙ sym days;
      micros = λ m d. sym off;
      month_sum = λ m. h.month_sum (sym months ∙ m) ∙ same_total Months counts c month_zero;
      day_sum = λ m d. h.day_sum (sym months ∙ m) (sym days ∙ d) ∙ same_total Days counts c day_zero;
      micro_sum = λ m d u. absurd (both_ways _ off u);
    }

-- one more count whose share doesn't fit, at the end
pub tally_mark : (unit : TimeUnit) (negative : Bool) (whole fraction : List ℕ) (tally : Tally) (counts : List Count)
    → fits_type (main_part unit) (share (main_part unit) (count_of negative whole fraction unit)) ≡ false → Tallies tally counts
    → Tallies (marked (main_part unit) tally) (counts ++ count_of negative whole fraction unit ∷ [])
tally_mark Year n w f tally counts out h = mark_months tally counts (count_of n w f Year) out h
tally_mark Month n w f tally counts out h = mark_months tally counts (count_of n w f Month) out h
tally_mark Week n w f tally counts out h = mark_days tally counts (count_of n w f Week) (fits_type-signed_zero Months n)
    (signed-zero n) out h
tally_mark Day n w f tally counts out h = mark_days tally counts (count_of n w f Day) (fits_type-signed_zero Months n) (signed-zero n) out h
tally_mark Hour n w f tally counts out h = mark_micros tally counts (count_of n w f Hour) (fits_type-signed_zero Months n) (signed-zero n)
    (fits_type-signed_zero Months n) (signed-zero n) out h
tally_mark Minute n w f tally counts out h = mark_micros tally counts (count_of n w f Minute) (fits_type-signed_zero Months n)
    (signed-zero n) (fits_type-signed_zero Months n) (signed-zero n) out h
tally_mark Second n w f tally counts out h = mark_micros tally counts (count_of n w f Second) (fits_type-signed_zero Months n)
    (signed-zero n) (fits_type-signed_zero Months n) (signed-zero n) out h
