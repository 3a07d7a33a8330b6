-- The counts of written texts, and what they add up to.
use Rattle.std.proofs.Common.{◌≡◌, ℕ, ◌+◌, ◌*◌, ◌<◌, ◌≤◌, ◌^◌, Bool, false, IsTrue, List, [], ◌∷◌, ◌++◌, decimal, codes, if◌then◌else◌}
use Rattle.std.proofs.Common.{◌==◌, ℤ, pos, unsigned_abs, refl, arith, eqb-true, sym}
use Rattle.std.proofs.lemmas.Bool.{cond_both}
use Rattle.std.proofs.lemmas.Int.{ints}
use Rattle.std.specs.Int.{is_negative}
use Rattle.scan_core.specs.Count.{Count}
use Rattle.scan_core.specs.Digits.{number_of}
use Rattle.scan_core.specs.Padded.{padded_digits}
use Rattle.scan_core.specs.Shares.{signed, fits_type}
use Rattle.scan_core.specs.ShareSteps.{magnitude}
use Rattle.scan_core.specs.declared.share.Unit.{Unit as TimeUnit}
use Rattle.scan_core.specs.declared.share.Unit.TheVariants.{Year, Month, Week, Day, Hour, Minute, Second}
use Rattle.scan_core.specs.declared.share.Part.{Part}
use Rattle.scan_core.specs.declared.share.Part.TheVariants.{Months, Days, Micros}
use Rattle.pg_interval_2.specs.declared.interval.Interval.{Interval}
use Rattle.pg_interval_2.specs.Ranges.{IsInRange}
use Rattle.pg_interval_2.specs.inside.IsoSteps.{nonzero_digits}
use Rattle.pg_interval_2.specs.inside.PartSteps.{years_of, months_of, hours_of, minutes_of, seconds_of, subsecond_of}
use Rattle.scan_core.proofs.DigitFacts.{number_of-decimal}
use Rattle.scan_core.proofs.RoundingFacts.{rounded-nil}
use Rattle.pg_interval_2.proofs.WrittenDigits.{rounded-padded}
use Rattle.scan_core.proofs.Signs.{signed-zero, fits_type-smaller, fits_type-signed_zero, abs_fits, signed-abs, signed_two, signed_three}
use Rattle.pg_interval_2.proofs.AddsUp.{AddsUp, AddsUp-nil, AddsUp-one, AddsUp-append, AddsUp-same}
use Rattle.scan_core.proofs.FitFacts.{fits_32, fits_64}
use Rattle.pg_interval_2.proofs.SumsTo.{SumsTo, date_of, time_of}

-- the count of a number of a unit, or none where it is 0
abbrev pub part_counts : Bool → ℕ → TimeUnit → List Count
part_counts negative n unit = if n == 0 then [] else (record { negative = negative; whole = decimal n; fraction = []; unit = unit } ∷ [])

-- the count of seconds and microseconds, or none where they are 0
abbrev pub seconds_counts : Bool → ℕ → ℕ → List Count
seconds_counts negative seconds micros =
    if micros == 0 then part_counts negative seconds Second else
    (record { negative = negative; whole = nonzero_digits seconds; fraction = padded_digits 6 micros; unit = Second } ∷ [])

-- no seconds, as they are written of zero
abbrev pub zero_count : Count
zero_count = record { negative = false; whole = codes "0"; fraction = []; unit = Second }

pub magnitude-zero : (part : Part) (unit : TimeUnit) → magnitude part unit 0 0 ≡ 0
magnitude-zero Months Year = refl
magnitude-zero Months Month = refl
magnitude-zero Months _ = refl
magnitude-zero Days Month = refl
magnitude-zero Days Week = refl
magnitude-zero Days Day = refl
magnitude-zero Days _ = refl
magnitude-zero Micros Day = refl
magnitude-zero Micros Hour = refl
magnitude-zero Micros Minute = refl
magnitude-zero Micros Second = refl
magnitude-zero Micros _ = refl

pub part_counts-sum : (part : Part) (negative : Bool) (n : ℕ) (unit : TimeUnit) → n < 2 ^ 64
    → IsTrue (fits_type part (signed negative (magnitude part unit n 0)))
    → AddsUp part (part_counts negative n unit) (signed negative (magnitude part unit n 0))
part_counts-sum part negative n unit small fits =
    cond_both (n == 0) _ _ (λ counts. AddsUp part counts (signed negative (magnitude part unit n 0)))
    (λ zero_is. AddsUp-same part [] (pos 0) _ (AddsUp-nil part) (sym (rw (eqb-true n 0 zero_is, magnitude-zero) (signed-zero negative))))
    (λ _. AddsUp-one part _ n 0 (number_of-decimal n small) (rounded-nil _) fits)

-- the whole seconds are the digits of their number, or none where it is 0
whole_seconds : (n : ℕ) → n < 2 ^ 64 → number_of (nonzero_digits n) ≡ n
unfolding nonzero_digits
whole_seconds n small =
    cond_both (n == 0) _ _ (λ digits. number_of digits ≡ n) (λ zero_is. sym (eqb-true n 0 zero_is)) (λ _. number_of-decimal n small)

pub seconds_counts-sum : (part : Part) (negative : Bool) (seconds micros : ℕ) → seconds < 2 ^ 64 → micros < 1_000_000
    → IsTrue (fits_type part (signed negative (magnitude part Second seconds micros)))
    → AddsUp part (seconds_counts negative seconds micros) (signed negative (magnitude part Second seconds micros))
seconds_counts-sum part negative seconds micros small below fits =
    cond_both (micros == 0) _ _ (λ counts. AddsUp part counts (signed negative (magnitude part Second seconds micros)))
    (λ zero_is. let none : micros ≡ 0 = eqb-true micros 0 zero_is in rw none
    (part_counts-sum part negative seconds Second small (rw none at fits)))
    (λ _. AddsUp-one part _ seconds micros (whole_seconds seconds small) (rounded-padded micros below) fits)

-- the counts of years, months and days
abbrev pub date_counts : ℤ → ℤ → List Count
date_counts months days =
    part_counts (is_negative months) (years_of months) Year ++ (part_counts (is_negative months) (months_of months) Month
    ++ part_counts (is_negative days) (unsigned_abs days) Day)

-- the counts of hours and minutes, and those of seconds behind them
abbrev pub time_with : ℤ → List Count → List Count
time_with micros seconds =
    part_counts (is_negative micros) (hours_of micros) Hour ++ (part_counts (is_negative micros) (minutes_of micros) Minute ++ seconds)

abbrev pub time_counts : ℤ → List Count
time_counts micros = time_with micros (seconds_counts (is_negative micros) (seconds_of micros) (subsecond_of micros))

-- the count of a number that is part of z
counted : (part : Part) (z : ℤ) (n : ℕ) (unit : TimeUnit) → n < 2 ^ 64 → magnitude part unit n 0 ≤ unsigned_abs z
    → IsTrue (fits_type part z)
    → AddsUp part (part_counts (is_negative z) n unit) (signed (is_negative z) (magnitude part unit n 0))
counted part z n unit small below fits = part_counts-sum part (is_negative z) n unit small (fits_type-smaller part z _ below fits)

-- a count that has nothing of this part
uncounted : (part : Part) (negative : Bool) (n : ℕ) (unit : TimeUnit) → n < 2 ^ 64 → magnitude part unit n 0 ≡ 0
    → AddsUp part (part_counts negative n unit) (pos 0)
uncounted part negative n unit small none =
    AddsUp-same part _ _ _ (part_counts-sum part negative n unit small (rw none (fits_type-signed_zero part negative)))
    (rw none (signed-zero negative))

date_counts-months : (months days : ℤ) → IsTrue (fits_type Months months) → IsTrue (fits_type Days days)
    → AddsUp Months (date_counts months days) months
date_counts-months months days fit_months fit_days =
    let small : unsigned_abs months ≤ 2 ^ 63 = abs_fits Months months fit_months in
    AddsUp-same Months _ _ _
    (AddsUp-append Months _ _ _ _ (counted Months months (years_of months) Year (omega arith) (omega arith) fit_months)
    (AddsUp-append Months _ _ _ _ (counted Months months (months_of months) Month (omega arith) (omega arith) fit_months)
    (uncounted Months (is_negative days) (unsigned_abs days) Day (omega (arith, abs_fits Days days fit_days)) refl)))
    (omega (arith, ints, signed_two months (12 * years_of months + 0) (months_of months) (omega arith)))

date_counts-days : (months days : ℤ) → IsTrue (fits_type Months months) → IsTrue (fits_type Days days)
    → AddsUp Days (date_counts months days) days
date_counts-days months days fit_months fit_days =
    let small : unsigned_abs months ≤ 2 ^ 63 = abs_fits Months months fit_months in
    AddsUp-same Days _ _ _
    (AddsUp-append Days _ _ _ _ (uncounted Days (is_negative months) (years_of months) Year (omega arith) refl)
    (AddsUp-append Days _ _ _ _ (uncounted Days (is_negative months) (months_of months) Month (omega arith) refl)
    (counted Days days (unsigned_abs days) Day (omega (arith, abs_fits Days days fit_days)) (omega arith) fit_days)))
    (omega (arith, ints, signed-abs days))

date_counts-micros : (months days : ℤ) → IsTrue (fits_type Months months) → IsTrue (fits_type Days days)
    → AddsUp Micros (date_counts months days) (pos 0)
date_counts-micros months days fit_months fit_days =
    let small : unsigned_abs months ≤ 2 ^ 63 = abs_fits Months months fit_months in
    AddsUp-append Micros _ _ _ _ (uncounted Micros (is_negative months) (years_of months) Year (omega arith) refl)
    (AddsUp-append Micros _ _ _ _ (uncounted Micros (is_negative months) (months_of months) Month (omega arith) refl)
    (uncounted Micros (is_negative days) (unsigned_abs days) Day (omega (arith, abs_fits Days days fit_days)) refl))

-- the hours, minutes and seconds in microseconds
pub time_parts : (micros : ℤ)
    → hours_of micros * 3_600_000_000 + (minutes_of micros * 60_000_000 + (seconds_of micros * 1_000_000 + subsecond_of micros))
    ≡ unsigned_abs micros
time_parts micros = omega arith

-- one part of the seconds of a number of microseconds, by their counts
abbrev pub HasSeconds : ℤ → List Count → Type 0
HasSeconds micros seconds =
    (part : Part) → IsTrue (fits_type part (signed (is_negative micros) (magnitude part Second (seconds_of micros) (subsecond_of micros))))
    → AddsUp part seconds (signed (is_negative micros) (magnitude part Second (seconds_of micros) (subsecond_of micros)))

time_with-micros : (micros : ℤ) (seconds : List Count) → HasSeconds micros seconds → IsTrue (fits_type Micros micros)
    → AddsUp Micros (time_with micros seconds) micros
time_with-micros micros seconds sum fits =
    let small : unsigned_abs micros ≤ 2 ^ 63 = abs_fits Micros micros fits in
    AddsUp-same Micros _ _ _
    (AddsUp-append Micros _ _ _ _ (counted Micros micros (hours_of micros) Hour (omega arith) (omega arith) fits)
    (AddsUp-append Micros _ _ _ _ (counted Micros micros (minutes_of micros) Minute (omega arith) (omega arith) fits)
    (sum Micros (fits_type-smaller Micros micros _ (omega arith) fits))))
    (signed_three (is_negative micros) micros _ _ _ (signed-abs micros) (omega (arith, time_parts micros)))

time_with-months : (micros : ℤ) (seconds : List Count) → HasSeconds micros seconds → IsTrue (fits_type Micros micros)
    → AddsUp Months (time_with micros seconds) (pos 0)
time_with-months micros seconds sum fits =
    let small : unsigned_abs micros ≤ 2 ^ 63 = abs_fits Micros micros fits in
    AddsUp-append Months _ _ _ _ (uncounted Months (is_negative micros) (hours_of micros) Hour (omega arith) refl)
    (AddsUp-append Months _ _ _ _ (uncounted Months (is_negative micros) (minutes_of micros) Minute (omega arith) refl)
    (AddsUp-same Months _ _ _ (sum Months (fits_type-signed_zero Months (is_negative micros))) (signed-zero (is_negative micros))))

time_with-days : (micros : ℤ) (seconds : List Count) → HasSeconds micros seconds → IsTrue (fits_type Micros micros)
    → AddsUp Days (time_with micros seconds) (pos 0)
time_with-days micros seconds sum fits =
    let small : unsigned_abs micros ≤ 2 ^ 63 = abs_fits Micros micros fits in
    AddsUp-append Days _ _ _ _ (uncounted Days (is_negative micros) (hours_of micros) Hour (omega arith) refl)
    (AddsUp-append Days _ _ _ _ (uncounted Days (is_negative micros) (minutes_of micros) Minute (omega arith) refl)
    (AddsUp-same Days _ _ _ (sum Days (fits_type-signed_zero Days (is_negative micros))) (signed-zero (is_negative micros))))

pub date_counts-sum : (t : Interval) → IsInRange t → SumsTo (date_counts t.months t.days) (date_of t)
date_counts-sum t range =
    let months : IsTrue (fits_type Months t.months) = fits_32 t.months range.months in
    let days : IsTrue (fits_type Days t.days) = fits_32 t.days range.days in
    record {
      months = date_counts-months t.months t.days months days;
      days = date_counts-days t.months t.days months days;
      micros = date_counts-micros t.months t.days months days;
    }

pub time_with-sum : (t : Interval) (seconds : List Count) → IsInRange t → HasSeconds t.microseconds seconds
    → SumsTo (time_with t.microseconds seconds) (time_of t)
time_with-sum t seconds range sum =
    let fits : IsTrue (fits_type Micros t.microseconds) = fits_64 t.microseconds range.microseconds in
    record {
      months = time_with-months t.microseconds seconds sum fits;
      days = time_with-days t.microseconds seconds sum fits;
      micros = time_with-micros t.microseconds seconds sum fits;
    }

pub time_counts-sum : (t : Interval) → IsInRange t → SumsTo (time_counts t.microseconds) (time_of t)
time_counts-sum t range =
    let small : unsigned_abs t.microseconds ≤ 2 ^ 63 = abs_fits Micros t.microseconds (fits_64 t.microseconds range.microseconds) in
    time_with-sum t _ range (λ part. seconds_counts-sum part (is_negative t.microseconds) (seconds_of t.microseconds)
    (subsecond_of t.microseconds) (omega arith) (omega arith))
