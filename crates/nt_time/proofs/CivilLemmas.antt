-- Where the civil years begin, and where the DOS years begin and end.
use Rattle.std.proofs.Common.{◌≡◌, ℕ, ◌<◌, ◌≤◌, pos, neg_ℤ, ◌*ℤ◌, ◌<ℤ◌, ◌≤ℤ◌, ◌↔◌, refl, inl, inr, ⊎_elim, Result, Ok, Err, IsOk, IsErrOf}
use Rattle.std.proofs.Common.{arith}
use Rattle.std.proofs.lemmas.Bool.{cases_lt}
use Rattle.std.proofs.lemmas.Int.{ints, by_lt_z}
use Rattle.jiff.proofs.Family.{days_from_civil-min, epoch_day-lt, epoch_day_same, civil_nanos-parts, time_nanos_bound}
use Rattle.jiff.proofs.OnLiterals.{jiff_on_literals}
use Rattle.jiff.specs.Types.{Date, DateTime}
use Rattle.jiff.specs.Words.{epoch_day, civil_nanos, time_nanos}
use Rattle.dos_date.specs.DateTime.{IsFromCivil}
use Rattle.dos_date.specs.Words.{Words}
use Rattle.dos_date.specs.declared.error.DosRangeErrorKind.{DosRangeErrorKind}
use Rattle.nt_time.specs.declared.error.FileTimeRangeErrorKind.{FileTimeRangeErrorKind}
use Rattle.nt_time.specs.declared.error.FileTimeRangeErrorKind.TheVariants.{Negative, Overflow}
use Rattle.nt_time.specs.Civil.{IsUtcOf, IsDosFrom, past_civil}

-- the first civil date-time
pub first_nanos : (civil : DateTime) → civil.date.year ≡ neg_ℤ (pos 9999) → civil.date.month ≡ 1
    → civil.date.day ≡ 1 → time_nanos civil.time ≡ 0
    → civil_nanos civil ≡ neg_ℤ (pos 377_705_116_800_000_000_000)
first_nanos civil year month day midnight =
    let first : epoch_day civil.date ≡ neg_ℤ (pos 4_371_587) = rw (year, month, day) days_from_civil-min in
    omega (arith, ints, first, midnight, civil_nanos-parts civil)

first_of_1980 : Date
first_of_1980 = record {
  year = pos 1980;
  month = 1;
  day = 1;
  year_in = (omega (arith, ints), omega (arith, ints));
  month_in = (omega arith, omega arith);
  day_in = (omega arith, omega arith);
}

first_of_2108 : Date
first_of_2108 = record {
  year = pos 2108;
  month = 1;
  day = 1;
  year_in = (omega (arith, ints), omega (arith, ints));
  month_in = (omega arith, omega arith);
  day_in = (omega arith, omega arith);
}

-- the calendar's own count
epoch_day-1980 : epoch_day first_of_1980 ≡ pos 3652
unfolding first_of_1980 jiff_on_literals
epoch_day-1980 = refl

epoch_day-2108 : epoch_day first_of_2108 ≡ pos 50_403
unfolding first_of_2108 jiff_on_literals
epoch_day-2108 = refl

-- no date of a year is before the first of January
first_is_first : (first date : Date) → first.month ≡ 1 → first.day ≡ 1 → first.year ≤ℤ date.year
    → epoch_day first ≤ℤ epoch_day date
first_is_first first date month day year =
    by_lt_z first.year date.year (λ lt. omega (arith, ints, epoch_day-lt first date (inl lt)))
    (λ ge. let same : first.year ≡ date.year = omega (arith, ints) in
    ⊎_elim (λ lt. omega (arith, ints, epoch_day-lt first date (inr (same, inl lt))))
    (λ ge_month. let same_month : first.month ≡ date.month = omega arith in
    ⊎_elim (λ lt. omega (arith, ints, epoch_day-lt first date (inr (same, inr (same_month, lt)))))
    (λ ge_day. omega (arith, ints, epoch_day_same first date same same_month (omega arith)))
    (cases_lt first.day date.day))
    (cases_lt first.month date.month))

-- a moment is in an earlier year exactly where it is before that year's first moment
before_year : (first : Date) (civil : DateTime) → first.month ≡ 1 → first.day ≡ 1
    → (civil.date.year <ℤ first.year) ↔ (civil_nanos civil <ℤ (epoch_day first *ℤ pos 86_400_000_000_000))
before_year first civil month day = (
  λ lt. omega (arith, ints, civil_nanos-parts civil, time_nanos_bound civil.time, epoch_day-lt civil.date first (inl lt)),
  λ lt. by_lt_z civil.date.year first.year (λ h. h) (λ ge. absurd
      (omega (arith, ints, civil_nanos-parts civil, first_is_first first civil.date month day ge))),
)

before_1980 : (civil : DateTime)
    → (civil.date.year <ℤ pos 1980) ↔ (civil_nanos civil <ℤ pos 315_532_800_000_000_000)
unfolding first_of_1980
before_1980 civil =
    let year = before_year first_of_1980 civil refl refl in
    (λ lt. omega (arith, ints, year.0 lt, epoch_day-1980), λ lt. year.1 (omega (arith, ints, epoch_day-1980)))

before_2108 : (civil : DateTime)
    → (civil.date.year <ℤ pos 2108) ↔ (civil_nanos civil <ℤ pos 4_354_819_200_000_000_000)
unfolding first_of_2108
before_2108 civil =
    let year = before_year first_of_2108 civil refl refl in
    (λ lt. omega (arith, ints, year.0 lt, epoch_day-2108), λ lt. year.1 (omega (arith, ints, epoch_day-2108)))

-- the DOS date-time of a tick within the civil years
pub dos_from : (ticks : ℕ) (civil : DateTime) (result : Result Words DosRangeErrorKind)
    → IsUtcOf ticks civil → ticks < past_civil → IsFromCivil civil result → IsDosFrom ticks result
dos_from ticks civil result utc below from = record {
  civil = λ _. (civil, utc, from);
  beyond = λ past. absurd (omega arith);
  negative = (
    λ e. let early = (before_1980 civil).0 (from.negative.0 e) in omega (arith, ints, early),
    λ lt. from.negative.1 ((before_1980 civil).1 (omega (arith, ints))),
  );
  overflow = (
    λ e. cases_le 159_992_928_000_000_000 ticks (λ lt. let soon = (before_2108 civil).1 (omega (arith, ints)) in absurd
        (omega (arith, ints, soon, from.overflow.0 e))),
    λ le. from.overflow.1 (by_lt_z civil.date.year (pos 2108) (λ lt. absurd
        (let soon = (before_2108 civil).0 lt in omega (arith, ints, soon))) (λ ge. omega (arith, ints))),
  );
}
  where
    cases_le : (m n : ℕ) → (n < m → m ≤ n) → m ≤ n
    cases_le m n h = ⊎_elim h (λ le. le) (cases_lt n m)

-- no moment from 1980 on is before 1970
pub since_1980 : (civil : DateTime) → pos 1980 ≤ℤ civil.date.year → pos 0 ≤ℤ civil_nanos civil
since_1980 civil year =
    by_lt_z (civil_nanos civil) (pos 0) (λ lt. absurd (let early = (before_1980 civil).1 (omega (arith, ints)) in omega
    (arith, ints, early))) (λ h. h)

-- a call that meets neither bound succeeds
pub succeeds : (result : Result ℕ FileTimeRangeErrorKind) → ¬ IsErrOf result Negative
    → ¬ IsErrOf result Overflow → IsOk result
succeeds (Ok ticks) no_negative no_overflow = refl
succeeds (Err Negative) no_negative no_overflow = absurd (no_negative refl)
succeeds (Err Overflow) no_negative no_overflow = absurd (no_overflow refl)
