-- A text written in `sql_standard` style is read back as its interval, and as no other.
use Rattle.std.proofs.Common.{◌≡◌, ◌+◌, ◌*◌, ◌≤◌, ◌^◌, Bool, true, false, not, ◌&&◌, ◌||◌, IsTrue, List, [], ◌∷◌, ◌++◌, decimal, ℤ, pos}
use Rattle.std.proofs.Common.{negsuc, unsigned_abs, int_eq, refl, sym, arith}
use Rattle.std.proofs.lemmas.Bool.{cond_both, and_parts, not-true, not-false}
use Rattle.std.proofs.lemmas.Bool.Decides.{nat_tests}
use Rattle.std.proofs.lemmas.Int.{ints}
use Rattle.std.specs.Int.{is_negative}
use Rattle.scan_core.specs.Count.{Count, count_of}
use Rattle.scan_core.specs.Shares.{fits_type}
use Rattle.scan_core.specs.declared.share.Part.TheVariants.{Months, Days, Micros}
use Rattle.scan_core.specs.declared.share.Unit.TheVariants.{Year, Month, Day}
use Rattle.scan_core.proofs.DigitFacts.{number_of-decimal}
use Rattle.scan_core.proofs.RoundingFacts.{rounded-nil}
use Rattle.pg_interval_2.specs.declared.interval.Interval.{Interval}
use Rattle.pg_interval_2.specs.Denotes.{Denotes}
use Rattle.pg_interval_2.specs.inside.PartSteps.{has_negative, years_of, months_of}
use Rattle.pg_interval_2.specs.Ranges.{IsInRange}
use Rattle.pg_interval_2.specs.Sql.{IsSql}
use Rattle.pg_interval_2.specs.inside.SqlSteps.{has_positive, has_all_signs, sql_steps}
use Rattle.pg_interval_2.proofs.AddsUp.{AddsUp-append, AddsUp-same}
use Rattle.pg_interval_2.proofs.ClockCounts.{field_sum, field_nothing, three_counts, three_counts-sum}
use Rattle.scan_core.proofs.Signs.{int_eq-zero, Serves, is_negative-pos, abs_fits, signed-abs, signed_two}
use Rattle.pg_interval_2.proofs.SqlCounts.{one_list}
use Rattle.pg_interval_2.proofs.SqlSpelled.{year_month_counts, day_counts, plain_counts, sql_counts, sql_spelled}
use Rattle.scan_core.proofs.FitFacts.{fits_32, fits_64}
use Rattle.pg_interval_2.proofs.SumsTo.{SumsTo, SumsTo-nil, SumsTo-append, months_alone, days_alone, Denotes-SumsTo, alone-SumsTo}

-- ---- the sums of the words

year_month-sum : (t : Interval) → IsInRange t → SumsTo (year_month_counts (is_negative t.months) t.months) (months_alone t)
year_month-sum t range =
    let months = t.months in
    let fits : IsTrue (fits_type Months months) = fits_32 months range.months in
    let small : unsigned_abs months ≤ 2 ^ 63 = abs_fits Months months fits in
    let years : Count = count_of (is_negative months) (decimal (years_of months)) [] Year in
    let rest : Count = count_of (is_negative months) (decimal (months_of months)) [] Month in
    let year_digits = number_of-decimal (years_of months) (omega arith) in
    let month_digits = number_of-decimal (months_of months) (omega arith) in
    record {
      months = AddsUp-same Months _ _ _
          (AddsUp-append Months (years ∷ []) _ _ _ (field_sum Months years (years_of months) 0 months year_digits (rounded-nil _)
          (signed-abs months) (omega arith) fits)
          (field_sum Months rest (months_of months) 0 months month_digits (rounded-nil _) (signed-abs months) (omega arith) fits))
          (signed_two months (12 * years_of months + 0) (months_of months) (omega arith));
      days = AddsUp-append Days (years ∷ []) _ (pos 0) _ (field_nothing Days years (years_of months) 0 year_digits (rounded-nil _) refl)
          (field_nothing Days rest (months_of months) 0 month_digits (rounded-nil _) refl);
      micros = AddsUp-append Micros (years ∷ []) _ (pos 0) _ (field_nothing Micros years (years_of months) 0 year_digits
          (rounded-nil _) refl) (field_nothing Micros rest (months_of months) 0 month_digits (rounded-nil _) refl);
    }

days-sum : (t : Interval) → IsInRange t → SumsTo (day_counts (is_negative t.days) t.days) (days_alone t)
days-sum t range =
    let days = t.days in
    let fits : IsTrue (fits_type Days days) = fits_32 days range.days in
    let small : unsigned_abs days ≤ 2 ^ 63 = abs_fits Days days fits in
    let count : Count = count_of (is_negative days) (decimal (unsigned_abs days)) [] Day in
    let digits = number_of-decimal (unsigned_abs days) (omega arith) in
    record {
      months = field_nothing Months count (unsigned_abs days) 0 digits (rounded-nil _) refl;
      days = AddsUp-same Days _ _ _ (field_sum Days count (unsigned_abs days) 0 days digits (rounded-nil _) (signed-abs days)
          (omega arith) fits) (signed-abs days);
      micros = field_nothing Micros count (unsigned_abs days) 0 digits (rounded-nil _) refl;
    }

-- ---- the sums of the texts

signed-sum : (t : Interval) → IsInRange t
    → SumsTo
    (year_month_counts (is_negative t.months) t.months
    ++ (day_counts (is_negative t.days) t.days ++ three_counts (is_negative t.microseconds) 1 t.microseconds)) t
signed-sum t range =
    SumsTo-append _ _ _ _ _ (year_month-sum t range)
    (SumsTo-append _ _ _ _ (record { months = pos 0; days = t.days; microseconds = t.microseconds }) (days-sum t range)
    (three_counts-sum (is_negative t.microseconds) 1 t range (signed-abs t.microseconds))
    (omega (arith, ints)) (omega (arith, ints)) (omega (arith, ints)))
    (omega (arith, ints)) (omega (arith, ints)) (omega (arith, ints))

-- where no two of the numbers have opposite signs, that of days that aren't 0 serves the time
one_sign : (months days micros : ℤ) → int_eq days (pos 0) ≡ false
    → has_negative months days micros && has_positive months days micros ≡ false
    → Serves (is_negative days) micros
one_sign months (pos n) (pos m) some one = rw is_negative-pos refl
one_sign months (pos n) (negsuc m) some one = grind (arith, ints, nat_tests)
one_sign months (negsuc n) (pos m) some one = grind (arith, ints, nat_tests)
one_sign months (negsuc n) (negsuc m) some one = refl

first_false : (x y : Bool) → x || y ≡ false → x ≡ false
first_false true y h = cc
first_false false y h = refl

both_or : (x months days micros : Bool) → x || (not months && not (days && micros)) ≡ false → months ≡ false
    → (days ≡ true) × (micros ≡ true)
both_or true months days micros h none = cc
both_or false true days micros h none = cc
both_or false false true true h none = (refl, refl)
both_or false false true false h none = cc
both_or false false false micros h none = cc

-- without a sign for each number, months that aren't 0 stand alone
none_beside : (months days micros : ℤ) → has_all_signs months days micros ≡ false → int_eq months (pos 0) ≡ false
    → (int_eq days (pos 0) ≡ true) × (int_eq micros (pos 0) ≡ true)
unfolding has_all_signs
none_beside months days micros one some = both_or (has_negative months days micros && has_positive months days micros)
    (int_eq months (pos 0)) (int_eq days (pos 0)) (int_eq micros (pos 0)) one some

no_opposites : (months days micros : ℤ) → has_all_signs months days micros ≡ false
    → has_negative months days micros && has_positive months days micros ≡ false
unfolding has_all_signs
no_opposites months days micros one = first_false (has_negative months days micros && has_positive months days micros) _ one

-- a sum with other names of its numbers
SumsTo-same : (counts : List Count) (t u : Interval) → SumsTo counts t → t.months ≡ u.months → t.days ≡ u.days
    → t.microseconds ≡ u.microseconds
    → SumsTo counts u
SumsTo-same counts t u sums months days micros = record {
  months = AddsUp-same Months counts _ _ sums.months months;
  days = AddsUp-same Days counts _ _ sums.days days;
  micros = AddsUp-same Micros counts _ _ sums.micros micros;
}

plain-sum : (t : Interval) → IsInRange t → has_all_signs t.months t.days t.microseconds ≡ false
    → SumsTo (plain_counts t.months t.days t.microseconds) t
plain-sum t range one =
    cond_both (not (int_eq t.months (pos 0))) _ _ (λ counts. SumsTo counts t)
    (λ some.
    let none = none_beside t.months t.days t.microseconds one (not-true _ some) in
    SumsTo-same _ _ _ (year_month-sum t range) refl (sym (int_eq-zero t.days none.0)) (sym (int_eq-zero t.microseconds none.1)))
    (λ no_months.
    let months = int_eq-zero t.months (not-false _ no_months) in
    cond_both (not (int_eq t.days (pos 0))) _ _ (λ counts. SumsTo counts t)
    (λ some.
    let serves = one_sign t.months t.days t.microseconds (not-true _ some) (no_opposites t.months t.days t.microseconds one) in
    SumsTo-append _ _ _ _ _ (days-sum t range) (three_counts-sum (is_negative t.days) 1 t range serves) (omega (arith, ints, months))
    (omega (arith, ints)) (omega (arith, ints)))
    (λ no_days.
    let days = int_eq-zero t.days (not-false _ no_days) in
    SumsTo-same _ _ _ (three_counts-sum (is_negative t.microseconds) 1 t range (signed-abs t.microseconds)) (sym months) (sym days) refl))

sql-sum : (t : Interval) → IsInRange t → SumsTo (sql_counts t.months t.days t.microseconds) t
sql-sum t range =
    cond_both _ _ _ (λ counts. SumsTo counts t)
    (λ zero.
    let outer = and_parts _ _ zero in
    let inner = and_parts _ _ outer.1 in
    SumsTo-nil t (int_eq-zero t.months outer.0) (int_eq-zero t.days inner.0) (int_eq-zero t.microseconds inner.1))
    (λ _. cond_both (has_all_signs t.months t.days t.microseconds) _ _ (λ counts. SumsTo counts t) (λ _. signed-sum t range)
    (λ one. plain-sum t range one))

spelled : (t : Interval) → IsInRange t → IsSql (sql_steps t.months t.days t.microseconds) (sql_counts t.months t.days t.microseconds)
spelled t range = sql_spelled t.months t.days t.microseconds (abs_fits Months t.months (fits_32 t.months range.months))
    (abs_fits Days t.days (fits_32 t.days range.days)) (abs_fits Micros t.microseconds (fits_64 t.microseconds range.microseconds))

pub sql_denotes : (t : Interval) → IsInRange t → Denotes IsSql (sql_steps t.months t.days t.microseconds) t
sql_denotes t range = Denotes-SumsTo IsSql _ _ t range (spelled t range) (sql-sum t range)

pub sql_alone : (t u : Interval) → IsInRange t → Denotes IsSql (sql_steps t.months t.days t.microseconds) u → u ≡ t
sql_alone t u range = alone-SumsTo IsSql _ _ t u (λ others is. one_list _ others _ is (spelled t range)) (sql-sum t range)
