-- A text written in ISO style is read back as its interval, and as no other.
use Rattle.std.proofs.Common.{◌≡◌, true, ◌&&◌, [], ◌∷◌, ℤ, pos, refl, sym, int_eq}
use Rattle.std.proofs.lemmas.Bool.{cond_both, and_parts}
use Rattle.scan_core.specs.declared.share.Part.{Part}
use Rattle.scan_core.specs.declared.share.Part.TheVariants.{Months, Days, Micros}
use Rattle.pg_interval_2.specs.declared.interval.Interval.{Interval}
use Rattle.pg_interval_2.specs.Denotes.{Denotes}
use Rattle.pg_interval_2.specs.inside.IsoShapes.{IsIsoEither}
use Rattle.pg_interval_2.specs.inside.IsoShapes.{IsStrictEither}
use Rattle.pg_interval_2.specs.inside.IsoSteps.{iso_steps}
use Rattle.pg_interval_2.specs.Ranges.{IsInRange}
use Rattle.scan_core.proofs.RoundingFacts.{rounded-nil}
use Rattle.pg_interval_2.proofs.IsoCounts.{one_list}
use Rattle.scan_core.proofs.Signs.{int_eq-zero, fits_type-zero, abs_fits}
use Rattle.pg_interval_2.proofs.AddsUp.{AddsUp, AddsUp-one, AddsUp-same}
use Rattle.pg_interval_2.proofs.WrittenCounts.{magnitude-zero, zero_count, date_counts-sum, time_counts-sum}
use Rattle.pg_interval_2.proofs.IsoSpelled.{iso_counts, iso_spelled}
use Rattle.pg_interval_2.proofs.IsoStrictFacts.{is_iso, iso_denoted}
use Rattle.scan_core.proofs.FitFacts.{fits_32, fits_64}
use Rattle.pg_interval_2.proofs.SumsTo.{SumsTo, SumsTo-date_time, Denotes-SumsTo, alone-SumsTo}

-- the count of zero, for a number that is 0
zero_sum : (part : Part) (z : ℤ) → int_eq z (pos 0) ≡ true → AddsUp part (zero_count ∷ []) z
zero_sum part z zero_is = AddsUp-same part _ _ _ (AddsUp-one part zero_count 0 0 refl (rounded-nil 1_000_000)
    (rw magnitude-zero (fits_type-zero part))) (rw magnitude-zero (sym (int_eq-zero z zero_is)))

zero_sums : (t : Interval) → int_eq t.months (pos 0) && (int_eq t.days (pos 0) && int_eq t.microseconds (pos 0)) ≡ true
    → SumsTo (zero_count ∷ []) t
zero_sums t zero_is =
    let outer = and_parts _ _ zero_is in
    let inner = and_parts _ _ outer.1 in
    record { months = zero_sum Months _ outer.0; days = zero_sum Days _ inner.0; micros = zero_sum Micros _ inner.1 }

iso_counts_sums : (t : Interval) → IsInRange t → SumsTo (iso_counts t.months t.days t.microseconds) t
iso_counts_sums t range = cond_both _ _ _ (λ counts. SumsTo counts t) (zero_sums t)
    (λ _. SumsTo-date_time _ _ t (date_counts-sum t range) (time_counts-sum t range))

spelled : (t : Interval) → IsInRange t → IsStrictEither (iso_steps t.months t.days t.microseconds)
    (iso_counts t.months t.days t.microseconds)
spelled t range = iso_spelled t.months t.days t.microseconds (abs_fits Months t.months (fits_32 t.months range.months))
    (abs_fits Days t.days (fits_32 t.days range.days)) (abs_fits Micros t.microseconds (fits_64 t.microseconds range.microseconds))

pub iso_denotes : (t : Interval) → IsInRange t → Denotes IsIsoEither (iso_steps t.months t.days t.microseconds) t
iso_denotes t range = Denotes-SumsTo IsIsoEither _ _ t range (is_iso _ _ (spelled t range)) (iso_counts_sums t range)

pub iso_alone : (t u : Interval) → IsInRange t → Denotes IsIsoEither (iso_steps t.months t.days t.microseconds) u → u ≡ t
iso_alone t u range = alone-SumsTo IsIsoEither _ _ t u (λ others is. one_list _ others _ is (is_iso _ _ (spelled t range)))
    (iso_counts_sums t range)

-- ---- in the strict style

pub strict_denotes : (t : Interval) → IsInRange t → Denotes IsStrictEither (iso_steps t.months t.days t.microseconds) t
strict_denotes t range = Denotes-SumsTo IsStrictEither _ _ t range (spelled t range) (iso_counts_sums t range)

pub strict_alone : (t u : Interval) → IsInRange t → Denotes IsStrictEither (iso_steps t.months t.days t.microseconds) u → u ≡ t
strict_alone t u range h = iso_alone t u range (iso_denoted _ u h)
