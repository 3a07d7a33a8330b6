-- A text written in `postgres_verbose` style is read back as its interval, and as no other.
use Rattle.std.proofs.Common.{◌≡◌, ℕ, ◌<◌, ◌≤◌, ◌^◌, Bool, true, false, cond, ◌==◌, IsTrue, List, [], ◌∷◌, ◌++◌, decimal, ℤ, unsigned_abs}
use Rattle.std.proofs.Common.{refl, ◌∙◌, ap, ap₂, arith, append_assoc, eqb-true}
use Rattle.std.proofs.lemmas.Bool.{cond_both, and_parts}
use Rattle.std.specs.Int.{is_negative}
use Rattle.scan_core.specs.Count.{Count, count_of}
use Rattle.scan_core.specs.Padded.{padded_digits}
use Rattle.scan_core.specs.Shares.{signed, fits_type}
use Rattle.scan_core.specs.ShareSteps.{magnitude}
use Rattle.scan_core.specs.declared.share.Part.{Part}
use Rattle.scan_core.specs.declared.share.Part.TheVariants.{Months, Days, Micros}
use Rattle.scan_core.specs.declared.share.Unit.{Unit as TimeUnit}
use Rattle.scan_core.specs.declared.share.Unit.TheVariants.{Year, Month, Day, Hour, Minute, Second}
use Rattle.scan_core.proofs.DigitFacts.{number_of-decimal}
use Rattle.scan_core.proofs.TrimmedFacts.{rounded-trimmed}
use Rattle.pg_interval_2.specs.declared.interval.Interval.{Interval}
use Rattle.pg_interval_2.specs.Denotes.{Denotes}
use Rattle.pg_interval_2.specs.inside.PartSteps.{years_of, months_of, hours_of, minutes_of, seconds_of, subsecond_of}
use Rattle.pg_interval_2.specs.Ranges.{IsInRange}
use Rattle.pg_interval_2.specs.Turned.{turned_sign, turned_counts}
use Rattle.pg_interval_2.specs.inside.TurnedCount.{turned_count}
use Rattle.pg_interval_2.specs.Verbose.{IsVerbose}
use Rattle.pg_interval_2.specs.inside.VerboseSteps.{has_ago, verbose_steps}
use Rattle.pg_interval_2.proofs.AddsUp.{AddsUp, AddsUp-one}
use Rattle.scan_core.proofs.Signs.{int_eq-zero, abs_fits}
use Rattle.scan_core.proofs.FitFacts.{fits_32, fits_64}
use Rattle.pg_interval_2.proofs.SumsTo.{SumsTo, SumsTo-nil, SumsTo-date_time, Denotes-SumsTo, alone-SumsTo}
use Rattle.pg_interval_2.proofs.Turning.{turned-append}
use Rattle.pg_interval_2.proofs.VerboseCounts.{one_list}
use Rattle.pg_interval_2.proofs.VerboseSpelled.{micros_behind, second_counts, verbose_counts, written_counts, verbose_spelled}
use Rattle.pg_interval_2.proofs.WrittenCounts.{part_counts, part_counts-sum, date_counts-sum, HasSeconds, time_with-sum}
use Rattle.pg_interval_2.proofs.WrittenDigits.{rounded-padded}

-- ---- a sign turned twice is the sign

twice : (turned negative : Bool) → turned_sign turned (turned_sign turned negative) ≡ negative
twice true true = refl
twice true false = refl
twice false negative = refl

turned_one : (turned negative : Bool) (whole fraction : List ℕ) (unit : TimeUnit)
    → turned_count turned (count_of (turned_sign turned negative) whole fraction unit) ≡ count_of negative whole fraction unit
turned_one turned negative whole fraction unit = ap (λ (sign : Bool). count_of sign whole fraction unit) (twice turned negative)

turned_if : (t turned : Bool) (c d : Count) → turned_count turned c ≡ d → turned_counts turned (cond t [] (c ∷ [])) ≡ cond t [] (d ∷ [])
turned_if true turned c d same = refl
turned_if false turned c d same = ap (λ (e : Count). e ∷ []) same

turned_part : (turned negative : Bool) (n : ℕ) (unit : TimeUnit)
    → turned_counts turned (part_counts (turned_sign turned negative) n unit) ≡ part_counts negative n unit
turned_part turned negative n unit = turned_if (n == 0) turned _ _ (turned_one turned negative (decimal n) [] unit)

turned_choice : (t turned : Bool) (xs : List Count) (ys : List Count) (c d : Count) → turned_counts turned xs ≡ ys
    → turned_count turned c ≡ d
    → turned_counts turned (cond t xs (c ∷ [])) ≡ cond t ys (d ∷ [])
turned_choice true turned xs ys c d all one = all
turned_choice false turned xs ys c d all one = ap (λ (e : Count). e ∷ []) one

turned_seconds : (turned negative : Bool) (seconds micros : ℕ)
    → turned_counts turned (second_counts (turned_sign turned negative) seconds micros) ≡ second_counts negative seconds micros
turned_seconds turned negative seconds micros =
    turned_choice (micros == 0) turned _ _ _ _ (turned_part turned negative seconds Second)
    (turned_one turned negative (decimal seconds) (micros_behind micros) Second)

turned_two : (turned : Bool) (xs ys us vs : List Count) → turned_counts turned xs ≡ us → turned_counts turned ys ≡ vs
    → turned_counts turned (xs ++ ys) ≡ us ++ vs
turned_two turned xs ys us vs h k = turned-append turned xs ys ∙ ap₂ (λ (a b : List Count). a ++ b) h k

turned_all : (ago : Bool) (months days micros : ℤ)
    → turned_counts ago (verbose_counts ago months days micros) ≡ verbose_counts false months days micros
turned_all ago months days micros =
    turned_two ago _ _ _ _ (turned_part ago (is_negative months) (years_of months) Year)
    (turned_two ago _ _ _ _ (turned_part ago (is_negative months) (months_of months) Month)
    (turned_two ago _ _ _ _ (turned_part ago (is_negative days) (unsigned_abs days) Day)
    (turned_two ago _ _ _ _ (turned_part ago (is_negative micros) (hours_of micros) Hour)
    (turned_two ago _ _ _ _ (turned_part ago (is_negative micros) (minutes_of micros) Minute)
    (turned_seconds ago (is_negative micros) (seconds_of micros) (subsecond_of micros))))))

-- ---- the sums

second_counts-sum : (part : Part) (negative : Bool) (seconds micros : ℕ) → seconds < 2 ^ 64 → micros < 1_000_000
    → IsTrue (fits_type part (signed negative (magnitude part Second seconds micros)))
    → AddsUp part (second_counts negative seconds micros) (signed negative (magnitude part Second seconds micros))
second_counts-sum part negative seconds micros small below fits =
    cond_both (micros == 0) _ _ (λ counts. AddsUp part counts (signed negative (magnitude part Second seconds micros)))
    (λ zero_is. let none : micros ≡ 0 = eqb-true micros 0 zero_is in rw none
    (part_counts-sum part negative seconds Second small (rw none at fits)))
    (λ _. AddsUp-one part _ seconds micros (number_of-decimal seconds small)
    (rounded-trimmed 1_000_000 (padded_digits 6 micros) ∙ rounded-padded micros below) fits)

has_seconds : (micros : ℤ) → unsigned_abs micros ≤ 2 ^ 63
    → HasSeconds micros (second_counts (is_negative micros) (seconds_of micros) (subsecond_of micros))
has_seconds micros small part = second_counts-sum part (is_negative micros) (seconds_of micros) (subsecond_of micros) (omega arith)
    (omega arith)

counts-sum : (t : Interval) → IsInRange t → SumsTo (verbose_counts false t.months t.days t.microseconds) t
counts-sum t range =
    let small = abs_fits Micros t.microseconds (fits_64 t.microseconds range.microseconds) in
    rw (append_assoc, append_assoc) at (SumsTo-date_time _ _ t (date_counts-sum t range)
    (time_with-sum t _ range (has_seconds t.microseconds small)))

sums : (t : Interval) → IsInRange t → SumsTo (written_counts t.months t.days t.microseconds) t
sums t range =
    cond_both _ _ _ (λ counts. SumsTo counts t)
    (λ zero.
    let outer = and_parts _ _ zero in
    let inner = and_parts _ _ outer.1 in
    SumsTo-nil t (int_eq-zero t.months outer.0) (int_eq-zero t.days inner.0) (int_eq-zero t.microseconds inner.1))
    (λ _. rw (turned_all (has_ago t.months t.days t.microseconds) t.months t.days t.microseconds) (counts-sum t range))

spelled : (t : Interval) → IsInRange t
    → IsVerbose (verbose_steps t.months t.days t.microseconds) (written_counts t.months t.days t.microseconds)
spelled t range = verbose_spelled t.months t.days t.microseconds (abs_fits Months t.months (fits_32 t.months range.months))
    (abs_fits Days t.days (fits_32 t.days range.days)) (abs_fits Micros t.microseconds (fits_64 t.microseconds range.microseconds))

pub verbose_denotes : (t : Interval) → IsInRange t → Denotes IsVerbose (verbose_steps t.months t.days t.microseconds) t
verbose_denotes t range = Denotes-SumsTo IsVerbose _ _ t range (spelled t range) (sums t range)

pub verbose_alone : (t u : Interval) → IsInRange t → Denotes IsVerbose (verbose_steps t.months t.days t.microseconds) u → u ≡ t
verbose_alone t u range = alone-SumsTo IsVerbose _ _ t u (λ others is. one_list _ others _ is (spelled t range)) (sums t range)
