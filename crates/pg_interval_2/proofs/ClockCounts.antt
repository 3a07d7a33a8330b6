-- The counts of a written clock, and what they add up to.
use Rattle.std.proofs.Common.{◌≡◌, ℕ, ◌+◌, ◌*◌, ◌/◌, ◌^◌, ◌<◌, ◌≤◌, Bool, false, ◌==◌, IsTrue, List, [], ◌∷◌, length, take, filter}
use Rattle.std.proofs.Common.{if◌then◌else◌, ℤ, pos, unsigned_abs, refl, sym, ap, ◌∙◌, arith, eqb-true}
use Rattle.std.proofs.lemmas.Bool.{and_from, and_parts, not-false, cond_both}
use Rattle.std.proofs.Math.Nat.{div-eq_of_lt}
use Rattle.std.proofs.lemmas.Int.{ints}
use Rattle.std.proofs.lemmas.List.{take_all}
use Rattle.std.specs.Int.{is_negative}
use Rattle.std.specs.List.{list_all}
use Rattle.scan_core.specs.Count.{Count, count_of}
use Rattle.scan_core.specs.Digits.{number_of}
use Rattle.scan_core.specs.Padded.{padded_digits}
use Rattle.scan_core.specs.Shares.{share, signed, rounded, fits_type}
use Rattle.scan_core.specs.ShareSteps.{magnitude, scale_of}
use Rattle.scan_core.specs.Sums.{total}
use Rattle.scan_core.specs.declared.share.Unit.TheVariants.{Hour, Minute, Second}
use Rattle.scan_core.specs.declared.share.Part.{Part}
use Rattle.scan_core.specs.declared.share.Part.TheVariants.{Months, Days, Micros}
use Rattle.scan_core.proofs.RoundingFacts.{rounded-nil, power-pos}
use Rattle.scan_core.proofs.PaddedFacts.{number_of-padded, length-padded}
use Rattle.pg_interval_2.specs.inside.Reading.{is_nonzero}
use Rattle.pg_interval_2.specs.declared.interval.Interval.{Interval}
use Rattle.pg_interval_2.specs.Ranges.{IsInRange}
use Rattle.pg_interval_2.specs.inside.PartSteps.{hours_of, minutes_of, seconds_of, subsecond_of}
use Rattle.pg_interval_2.proofs.Widths.{length_decimal_micros}
use Rattle.pg_interval_2.proofs.WrittenDigits.{rounded-padded}
use Rattle.scan_core.proofs.Signs.{Serves, signed-zero, signed-abs, fits_type-serves, fits_type-signed_zero, abs_fits, signed_three}
use Rattle.pg_interval_2.proofs.AddsUp.{AddsUp, AddsUp-one, AddsUp-append, AddsUp-same}
use Rattle.scan_core.proofs.FitFacts.{fits_64}
use Rattle.scan_core.proofs.ShareFacts.{share-steps}
use Rattle.pg_interval_2.proofs.SumsTo.{SumsTo, time_of}
use Rattle.pg_interval_2.proofs.WrittenCounts.{magnitude-zero, time_parts}

-- ---- counts that are 0 add nothing

half : (scale p : ℕ) → 0 < p → (0 * scale + p) / (2 * p) ≡ 0
half scale p some = div-eq_of_lt (omega arith)

rounded-zero : (scale : ℕ) (fraction : List ℕ) → number_of fraction ≡ 0 → rounded scale fraction ≡ 0
unfolding rounded
rounded-zero scale fraction none = rw none (half scale (10 ^ length fraction) (power-pos (length fraction)))

nothing_counted : (part : Part) (c : Count) → is_nonzero c ≡ false → share part c ≡ pos 0
nothing_counted part c zero_is =
    let parts = and_parts _ _ (not-false _ zero_is) in
    let whole : number_of c.whole ≡ 0 = eqb-true _ _ parts.0 in
    let fraction : rounded (scale_of c.unit) c.fraction ≡ 0 = rounded-zero (scale_of c.unit) c.fraction (eqb-true _ _ parts.1) in
    rw (share-steps part c, whole, fraction, magnitude-zero) (signed-zero c.negative)

total-filter : (part : Part) (counts : List Count) → total part (filter is_nonzero counts) ≡ total part counts
total-filter part [] = refl
total-filter part (c ∷ cs) =
    cond_both (is_nonzero c) _ _ (λ kept. total part kept ≡ total part (c ∷ cs)) (λ _. omega (arith, ints, total-filter part cs))
    (λ zero_is. omega (arith, ints, total-filter part cs, nothing_counted part c zero_is))

list_all-filter : {X : Type 0} (test keep : X → Bool) (xs : List X) → IsTrue (list_all test xs) → IsTrue (list_all test (filter keep xs))
list_all-filter test keep [] all = refl
list_all-filter test keep (x ∷ xs) all =
    let parts = and_parts _ _ all in
    cond_both (keep x) _ _ (λ kept. IsTrue (list_all test kept)) (λ _. and_from _ _ parts.0 (list_all-filter test keep xs parts.1))
    (λ _. list_all-filter test keep xs parts.1)

AddsUp-filter : (part : Part) (counts : List Count) (z : ℤ) → AddsUp part counts z → AddsUp part (filter is_nonzero counts) z
AddsUp-filter part counts z sums = record {
  each = list_all-filter _ is_nonzero counts sums.each;
  total_is = total-filter part counts ∙ sums.total_is;
}

-- ---- the fields of a written clock

-- the fraction digits of microseconds
abbrev pub micros_digits : ℕ → List ℕ
micros_digits micros = if micros == 0 then [] else padded_digits 6 micros

-- six digits at most are left by a cut after six
pub uncut_micros : (micros : ℕ) → micros < 1_000_000 → take 6 (micros_digits micros) ≡ micros_digits micros
uncut_micros micros below =
    cond_both (micros == 0) _ _ (λ (digits : List ℕ). take 6 digits ≡ digits) (λ _. refl)
    (λ _. take_all 6 (padded_digits 6 micros) (omega (arith, length-padded 6 micros, length_decimal_micros micros below)))

cut_micros : (micros : ℕ) → micros < 1_000_000 → rounded 1_000_000 (take 6 (micros_digits micros)) ≡ micros
cut_micros micros below =
    ap (rounded 1_000_000) (uncut_micros micros below)
    ∙ cond_both (micros == 0) _ _ (λ digits. rounded 1_000_000 digits ≡ micros)
    (λ zero_is. rounded-nil 1_000_000 ∙ sym (eqb-true micros 0 zero_is)) (λ _. rounded-padded micros below)

abbrev pub hour_count : Bool → ℕ → ℤ → Count
hour_count negative width micros = count_of negative (padded_digits width (hours_of micros)) [] Hour

abbrev pub minute_count : Bool → ℤ → Count
minute_count negative micros = count_of negative (padded_digits 2 (minutes_of micros)) [] Minute

abbrev pub second_count : Bool → ℤ → Count
second_count negative micros = count_of negative (padded_digits 2 (seconds_of micros)) (take 6 (micros_digits (subsecond_of micros))) Second

-- one field of a part of a number
pub field_sum : (part : Part) (c : Count) (w r : ℕ) (z : ℤ) → number_of c.whole ≡ w → rounded (scale_of c.unit) c.fraction ≡ r
    → Serves c.negative z → magnitude part c.unit w r ≤ unsigned_abs z → IsTrue (fits_type part z)
    → AddsUp part (c ∷ []) (signed c.negative (magnitude part c.unit w r))
field_sum part c w r z whole fraction serves below fits = AddsUp-one part c w r whole fraction
    (fits_type-serves part c.negative z (magnitude part c.unit w r) serves below fits)

-- the hours, minutes and seconds, each with this sign
abbrev pub three_counts : Bool → ℕ → ℤ → List Count
three_counts negative width micros = hour_count negative width micros ∷ minute_count negative micros ∷ second_count negative micros ∷ []

three_micros : (negative : Bool) (width : ℕ) (micros : ℤ) → Serves negative micros → IsTrue (fits_type Micros micros)
    → AddsUp Micros (three_counts negative width micros) micros
three_micros negative width micros serves fits =
    let small : unsigned_abs micros ≤ 2 ^ 63 = abs_fits Micros micros fits in
    AddsUp-same Micros _ _ _
    (AddsUp-append Micros (hour_count negative width micros ∷ []) _ _ _
    (field_sum Micros (hour_count negative width micros) (hours_of micros) 0 micros (number_of-padded width _ (omega arith))
    (rounded-nil _) serves (omega arith) fits)
    (AddsUp-append Micros (minute_count negative micros ∷ []) _ _ _
    (field_sum Micros (minute_count negative micros) (minutes_of micros) 0 micros (number_of-padded 2 _ (omega arith))
    (rounded-nil _) serves (omega arith) fits)
    (field_sum Micros (second_count negative micros) (seconds_of micros) (subsecond_of micros) micros (number_of-padded 2 _ (omega arith))
    (cut_micros _ (omega arith)) serves (omega arith) fits)))
    (signed_three negative micros _ _ _ serves (omega (arith, time_parts micros)))

-- a field that has nothing of a part
pub field_nothing : (part : Part) (c : Count) (w r : ℕ) → number_of c.whole ≡ w → rounded (scale_of c.unit) c.fraction ≡ r
    → magnitude part c.unit w r ≡ 0
    → AddsUp part (c ∷ []) (pos 0)
field_nothing part c w r whole fraction none =
    AddsUp-same part _ _ _ (AddsUp-one part c w r whole fraction (rw none (fits_type-signed_zero part c.negative)))
    (rw none (signed-zero c.negative))

three_nothing : (part : Part) (negative : Bool) (width : ℕ) (micros : ℤ) → unsigned_abs micros ≤ 2 ^ 63
    → magnitude part Hour (hours_of micros) 0 ≡ 0 → magnitude part Minute (minutes_of micros) 0 ≡ 0
    → magnitude part Second (seconds_of micros) (subsecond_of micros) ≡ 0
    → AddsUp part (three_counts negative width micros) (pos 0)
three_nothing part negative width micros small no_hours no_minutes no_seconds =
    AddsUp-append part (hour_count negative width micros ∷ []) _ (pos 0) _
    (field_nothing part (hour_count negative width micros) (hours_of micros) 0 (number_of-padded width _ (omega arith))
    (rounded-nil _) no_hours)
    (AddsUp-append part (minute_count negative micros ∷ []) _ (pos 0) _
    (field_nothing part (minute_count negative micros) (minutes_of micros) 0 (number_of-padded 2 _ (omega arith))
    (rounded-nil _) no_minutes)
    (field_nothing part (second_count negative micros) (seconds_of micros) (subsecond_of micros) (number_of-padded 2 _ (omega arith))
    (cut_micros _ (omega arith)) no_seconds))

pub three_counts-sum : (negative : Bool) (width : ℕ) (t : Interval) → IsInRange t → Serves negative t.microseconds
    → SumsTo (three_counts negative width t.microseconds) (time_of t)
three_counts-sum negative width t range serves =
    let fits : IsTrue (fits_type Micros t.microseconds) = fits_64 t.microseconds range.microseconds in
    let small : unsigned_abs t.microseconds ≤ 2 ^ 63 = abs_fits Micros t.microseconds fits in
    record {
      months = three_nothing Months negative width t.microseconds small refl refl refl;
      days = three_nothing Days negative width t.microseconds small refl refl refl;
      micros = three_micros negative width t.microseconds serves fits;
    }

-- those of them that aren't 0
pub kept_counts-sum : (width : ℕ) (t : Interval) → IsInRange t
    → SumsTo (filter is_nonzero (three_counts (is_negative t.microseconds) width t.microseconds)) (time_of t)
kept_counts-sum width t range =
    let all = three_counts-sum (is_negative t.microseconds) width t range (signed-abs t.microseconds) in
    record {
      months = AddsUp-filter Months _ _ all.months;
      days = AddsUp-filter Days _ _ all.days;
      micros = AddsUp-filter Micros _ _ all.micros;
    }
