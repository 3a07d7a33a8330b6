-- The days of the calendar are those of jiff's civil dates.
use Rattle.std.proofs.Common.{◌≡◌, ℕ, zero, suc, ◌+◌, ◌-◌, ◌≤◌, ℤ, pos, refl, sym, ◌∙◌, ap, arith}
use Rattle.std.specs.Prelude.{neg_ℤ, unsigned_abs, ◌+ℤ◌, ◌-ℤ◌, ◌<ℤ◌, ◌≤ℤ◌}
use Rattle.std.proofs.lemmas.Int.{ints, by_lt_z}
use Rattle.jiff_core.specs.Calendar.{days_from_civil, days_of_months as civil_months, IsDate, IsYear, IsBetween, IsEpochDay}
use Rattle.jiff_core.specs.Date.{epoch_day, ordinal, IsYmd}
use Rattle.jiff_core.specs.declared.civil.date.Date.{Date as CivilDate}
use Rattle.jiff_core.proofs.CalendarLemmas.{days_from_civil-day_count, day_count-next_year, days_of_months_more, days_of_months_mono}
use Rattle.jiff_core.proofs.CalendarLemmas.{days_of_months_all}
use Rattle.jiff_core.proofs.DateLemmas.{civil, epoch_day-ordinal, days_from_civil-min}
use Rattle.iso8601.specs.Calendar.{days_of_months, new_year, day_of, Exists, IsCivilDay}
use Rattle.iso8601.specs.Calendar.{days_in_year}
use Rattle.scan_core.specs.Calendar.{days_in_month}
use Rattle.iso8601.specs.declared.types.Date.TheVariants.{YMD, Ordinal}
use Rattle.iso8601.proofs.Years.{new_year-next, new_year-later}

-- ---- months and years

pub same_months : (y : ℤ) (n : ℕ) → days_of_months y n ≡ civil_months y n
unfolding days_of_months civil_months
same_months y zero = refl
same_months y (suc n) = ap (λ (d : ℕ). d + days_in_month y (suc n)) (same_months y n)

pub first_year : new_year (neg_ℤ (pos 9999)) ≡ neg_ℤ (pos 4_371_587)
unfolding new_year
first_year = refl

january_next : (y next : ℤ) → neg_ℤ (pos 9999) ≤ℤ y → next ≡ y +ℤ pos 1 → days_from_civil y 1 1 ≡ new_year y
    → days_from_civil next 1 1 ≡ new_year next
january_next y next least e h =
    let days = day_count-next_year y next (omega (arith, ints)) e in
    let a = days_from_civil-day_count y 1 1 in
    let b = days_from_civil-day_count next 1 1 in
    let c : new_year next ≡ new_year y +ℤ pos (days_in_year y) = ap new_year e ∙ new_year-next y in
    omega (arith, ints)

january : (n : ℕ) (y : ℤ) → y ≡ pos n -ℤ pos 9999 → days_from_civil y 1 1 ≡ new_year y
january zero y e =
    let here : y ≡ neg_ℤ (pos 9999) = omega (arith, ints) in rw here (days_from_civil-min ∙ sym first_year)
january (suc n) y e = january_next (pos n -ℤ pos 9999) y (omega (arith, ints)) (omega (arith, ints)) (january n (pos n -ℤ pos 9999) refl)

pub same_january : (y : ℤ) → neg_ℤ (pos 9999) ≤ℤ y → days_from_civil y 1 1 ≡ new_year y
same_january y least = january (unsigned_abs (y +ℤ pos 9999)) y (omega (arith, ints))

-- ---- the days of the civil years

pub last_year : new_year (pos 10000) ≡ pos 2_932_897
unfolding new_year
last_year = refl

pub first_civil : day_of (YMD (neg_ℤ (pos 9999)) 1 1) ≡ neg_ℤ (pos 4_371_587)
unfolding new_year days_of_months
first_civil = refl

pub last_civil : day_of (YMD (pos 9999) 12 31) ≡ pos 2_932_896
unfolding new_year days_of_months
last_civil = refl

-- a later year begins later
pub rises : (y later : ℤ) → y ≤ℤ later → new_year y ≤ℤ new_year later
rises y later h =
    let k : ℕ = unsigned_abs (later -ℤ y) in
    let e : later ≡ y +ℤ pos k = omega (arith, ints) in
    let r = new_year-later y k in
    rw e (omega (arith, ints))

pub in_years : (y day : ℤ) → IsYear y → new_year y ≤ℤ day → day <ℤ new_year (y +ℤ pos 1) → IsEpochDay day
in_years y day in_range least most =
    let first = rises (neg_ℤ (pos 9999)) y in_range.0 in
    let last = rises (y +ℤ pos 1) (pos 10000) (omega (arith, ints)) in
    (omega (arith, ints, first_year), omega (arith, ints, last_year))

late : (y day : ℤ) → new_year y ≤ℤ day → day ≤ℤ pos 2_932_896 → pos 10000 ≤ℤ y → ⊥
late y day least most far = let last = rises (pos 10000) y far in absurd (omega (arith, ints, last_year))

early : (y day : ℤ) → day <ℤ new_year (y +ℤ pos 1) → neg_ℤ (pos 4_371_587) ≤ℤ day → (y +ℤ pos 1) ≤ℤ neg_ℤ (pos 9999) → ⊥
early y day most least far = let first = rises (y +ℤ pos 1) (neg_ℤ (pos 9999)) far in absurd (omega (arith, ints, first_year))

pub only_years : (y day : ℤ) → new_year y ≤ℤ day → day <ℤ new_year (y +ℤ pos 1) → IsEpochDay day → IsYear y
only_years y day least most civil = (
  by_lt_z y (neg_ℤ (pos 9999)) (λ far. absurd (early y day most civil.0 (omega (arith, ints)))) (λ near. near),
  by_lt_z (pos 9999) y (λ far. absurd (late y day least civil.1 (omega (arith, ints)))) (λ near. near),
)

pub civil_is : (day : ℤ) → IsEpochDay day → IsCivilDay day
civil_is day h = (rw first_civil h.0, rw last_civil h.1)

pub is_civil : (day : ℤ) → IsCivilDay day → IsEpochDay day
is_civil day h = (rw first_civil at h.0, rw last_civil at h.1)

-- ---- days of months

-- a day of a month is a day of its year
pub month_in_year : (y : ℤ) (m d : ℕ) → 1 ≤ m → m ≤ 12 → d ≤ days_in_month y m → days_of_months y (m - 1) + d ≤ days_in_year y
month_in_year y m d some most day =
    let more = days_of_months_more y m some in
    let all = days_of_months_mono y m 12 most in
    let sum = days_of_months_all y in
    let same = same_months y (m - 1) in
    omega arith

pub ymd_bounds : (y : ℤ) (m d : ℕ) → Exists (YMD y m d) → (new_year y ≤ℤ day_of (YMD y m d)) × (day_of (YMD y m d) <ℤ new_year (y +ℤ pos 1))
ymd_bounds y m d e =
    let within = month_in_year y m d e.0 e.1 e.3 in
    let next = new_year-next y in
    (omega (arith, ints, e.2), omega (arith, ints))

pub ymd_exists : (y : ℤ) (m d : ℕ) → IsDate y (pos m) (pos d) → Exists (YMD y m d) × IsCivilDay (day_of (YMD y m d))
ymd_exists y m d is =
    let e : Exists (YMD y m d) = (
      omega (arith, ints, is.1.0),
      omega (arith, ints, is.1.1),
      omega (arith, ints, is.2.0),
      omega (arith, ints, is.2.1),
    ) in
    let b = ymd_bounds y m d e in
    (e, civil_is _ (in_years y _ is.0 b.0 b.1))

pub ymd_is : (y : ℤ) (m d : ℕ) → Exists (YMD y m d) × IsCivilDay (day_of (YMD y m d)) → IsDate y (pos m) (pos d)
ymd_is y m d h =
    let b = ymd_bounds y m d h.0 in (
      only_years y _ b.0 b.1 (is_civil _ h.1),
      (omega (arith, ints, h.0.0), omega (arith, ints, h.0.1)),
      (omega (arith, ints, h.0.2), omega (arith, ints, h.0.3)),
    )

pub ymd_day : (d : CivilDate) (year : ℤ) (month day : ℕ) → IsYmd year (pos month) (pos day) d → epoch_day d ≡ day_of (YMD year month day)
ymd_day d year month day ymd =
    let is = civil d in
    let place = epoch_day-ordinal d in
    let january = same_january d.year is.0.0 in
    let m : d.month ≡ month = omega (arith, ints, ymd.1) in
    let n : d.day ≡ day = omega (arith, ints, ymd.2) in
    let months : days_of_months d.year (d.month - 1) ≡ civil_months d.year (d.month - 1) = same_months d.year (d.month - 1) in
    let whole : epoch_day d ≡ day_of (YMD d.year d.month d.day) = omega (arith, ints) in
    whole ∙ rw (ymd.0, m, n) refl

-- ---- days of years

pub ordinal_bounds : (y : ℤ) (ddd : ℕ) → Exists (Ordinal y ddd) → (new_year y ≤ℤ day_of (Ordinal y ddd))
    × (day_of (Ordinal y ddd) <ℤ new_year (y +ℤ pos 1))
ordinal_bounds y ddd e = let next = new_year-next y in (omega (arith, ints, e.0), omega (arith, ints, e.1))

pub ordinal_exists : (y : ℤ) (ddd : ℕ) → IsYear y × IsBetween (pos 1) (pos (days_in_year y)) (pos ddd) → Exists (Ordinal y ddd)
    × IsCivilDay (day_of (Ordinal y ddd))
ordinal_exists y ddd is =
    let e : Exists (Ordinal y ddd) = (omega (arith, ints, is.1.0), omega (arith, ints, is.1.1)) in
    let b = ordinal_bounds y ddd e in
    (e, civil_is _ (in_years y _ is.0 b.0 b.1))

pub ordinal_is : (y : ℤ) (ddd : ℕ) → Exists (Ordinal y ddd) × IsCivilDay (day_of (Ordinal y ddd)) → IsYear y
    × IsBetween (pos 1) (pos (days_in_year y)) (pos ddd)
ordinal_is y ddd h =
    let b = ordinal_bounds y ddd h.0 in
    (only_years y _ b.0 b.1 (is_civil _ h.1), (omega (arith, ints, h.0.0), omega (arith, ints, h.0.1)))

pub ordinal_day : (d : CivilDate) (year : ℤ) (ddd : ℕ) → d.year ≡ year → pos (ordinal d) ≡ pos ddd → epoch_day d ≡ day_of (Ordinal year ddd)
ordinal_day d year ddd y o =
    let is = civil d in
    let place = epoch_day-ordinal d in
    let january = same_january d.year is.0.0 in
    let whole : epoch_day d ≡ day_of (Ordinal d.year ddd) = omega (arith, ints, o) in
    whole ∙ rw y refl
