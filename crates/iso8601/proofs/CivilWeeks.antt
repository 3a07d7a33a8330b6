-- The weeks of the calendar are those of jiff's week dates.
use Rattle.std.proofs.Common.{◌≡◌, ℕ, ◌+◌, ◌*◌, ◌<◌, ◌≤◌, ℤ, pos, refl, sym, ◌∙◌, ap, arith}
use Rattle.std.specs.Prelude.{neg_ℤ, unsigned_abs, ◌+ℤ◌, ◌-ℤ◌, ◌≤ℤ◌}
use Rattle.std.specs.Int.{int_rem_euclid}
use Rattle.std.proofs.lemmas.Int.{ints, by_lt_z}
use Rattle.jiff_core.specs.Calendar.{days_from_civil, weekday_number, iso_year_start, IsYear}
use Rattle.jiff_core.specs.IsoWeek.{weeks_in_year, days_from_iso, IsIsoWeekDate}
use Rattle.jiff_core.specs.Weekday.{monday_zero}
use Rattle.jiff_core.specs.declared.civil.weekday.Weekday.{Weekday}
use Rattle.jiff_core.specs.declared.civil.weekday.Weekday.TheVariants.{Monday, Tuesday, Wednesday, Thursday, Friday, Saturday, Sunday}
use Rattle.jiff_core.proofs.DateLemmas.{days_from_civil-day}
use Rattle.jiff_core.proofs.IsoWeekLemmas.{weeks_in_year-next}
use Rattle.iso8601.specs.Calendar.{new_year, after_monday, week_one, day_of, Exists, IsCivilDay}
use Rattle.iso8601.specs.declared.types.Date.TheVariants.{Week}
use Rattle.iso8601.proofs.Years.{new_year-later, week_one_near, after_monday_bounds}
use Rattle.iso8601.proofs.CivilDays.{same_january, first_year, last_year, civil_is, is_civil}

positive : (z : ℤ) → pos 0 ≤ℤ z → pos (unsigned_abs z) ≡ z
positive z h = omega (arith, ints)

same_after : (day : ℤ) → pos (weekday_number day) ≡ after_monday day
unfolding weekday_number after_monday
same_after day = positive (int_rem_euclid (day +ℤ pos 3) (pos 7)) (after_monday_bounds day).0

pub same_week_one : (y : ℤ) → neg_ℤ (pos 9999) ≤ℤ y → iso_year_start y ≡ week_one y
unfolding week_one
same_week_one y least =
    let days = days_from_civil-day y 1 1 4 (omega arith) (omega arith) in
    let january = same_january y least in
    let fourth : days_from_civil y 1 4 ≡ new_year y +ℤ pos 3 = omega (arith, ints) in
    rw (same_after (days_from_civil y 1 4), fourth) refl

below_seven : (w : Weekday) → monday_zero w < 7
below_seven Monday = omega arith
below_seven Tuesday = omega arith
below_seven Wednesday = omega arith
below_seven Thursday = omega arith
below_seven Friday = omega arith
below_seven Saturday = omega arith
below_seven Sunday = omega arith

pub week_day : (y : ℤ) (ww : ℕ) (w : Weekday) (d : ℕ) → neg_ℤ (pos 9999) ≤ℤ y → 1 ≤ ww → monday_zero w + 1 ≡ d
    → days_from_iso y ww w ≡ day_of (Week y ww d)
unfolding days_from_iso
week_day y ww w d least some same = let start = same_week_one y least in omega (arith, ints)

-- week 1 begins 52 or 53 weeks before that of the next year
next_week_one : (y : ℤ) → IsYear y → (week_one (y +ℤ pos 1) ≡ week_one y +ℤ pos (7 * weeks_in_year y)) × (52 ≤ weeks_in_year y)
    × (weeks_in_year y ≤ 53)
next_week_one y in_range =
    let next = weeks_in_year-next y (y +ℤ pos 1) in_range refl in (
      sym (same_week_one (y +ℤ pos 1) (omega (arith, ints))) ∙ next.0
          ∙ ap (λ (z : ℤ). z +ℤ pos (7 * weeks_in_year y)) (same_week_one y in_range.0),
      next.1,
      next.2,
    )

pub week_exists : (y : ℤ) (ww : ℕ) (w : Weekday) (d : ℕ) → monday_zero w + 1 ≡ d → IsIsoWeekDate y (pos ww) w → Exists (Week y ww d)
    × IsCivilDay (day_of (Week y ww d))
week_exists y ww w d same is =
    let seven = below_seven w in
    let next = next_week_one y is.0 in
    let near = week_one_near (y +ℤ pos 1) in
    let some : 1 ≤ ww = omega (arith, ints, is.1.0) in
    let e : Exists (Week y ww d) = (some, omega (arith, ints, is.1.1), omega arith, omega arith, λ last. omega (arith, ints, is.1.1)) in
    (e, rw (← week_day y ww w d is.0.0 some same) (civil_is _ is.2))

-- ---- the first and the last civil year

pub first_week_one : week_one (neg_ℤ (pos 10000)) ≡ neg_ℤ (pos 4_371_951)
unfolding week_one new_year after_monday
first_week_one = refl

pub last_week_one : week_one (pos 10000) ≡ pos 2_932_899
unfolding week_one new_year after_monday
last_week_one = refl

late_week : (y day : ℤ) → week_one y ≤ℤ day → day ≤ℤ pos 2_932_896 → pos 10000 ≤ℤ y → ⊥
late_week y day least most far =
    by_lt_z (pos 10000) y
    (λ more.
    let k : ℕ = unsigned_abs (y -ℤ pos 10000) in
    let e : y ≡ pos 10000 +ℤ pos k = omega (arith, ints) in
    let later = new_year-later (pos 10000) k in
    let year : new_year y ≡ new_year (pos 10000 +ℤ pos k) = ap new_year e in
    let near = week_one_near y in
    absurd (omega (arith, ints, last_year)))
    (λ same.
    let e : y ≡ pos 10000 = omega (arith, ints) in
    let start : week_one y ≡ pos 2_932_899 = ap week_one e ∙ last_week_one in
    absurd (omega (arith, ints)))

early_week : (y : ℤ) (ww d : ℕ) → Exists (Week y ww d) → neg_ℤ (pos 4_371_587) ≤ℤ day_of (Week y ww d) → (y +ℤ pos 1) ≤ℤ neg_ℤ (pos 9999)
    → ⊥
early_week y ww d e least far =
    by_lt_z y (neg_ℤ (pos 10000))
    (λ more.
    let k : ℕ = unsigned_abs (neg_ℤ (pos 9999) -ℤ y) in
    let same : neg_ℤ (pos 9999) ≡ y +ℤ pos k = omega (arith, ints) in
    let later = new_year-later y k in
    let year : new_year (neg_ℤ (pos 9999)) ≡ new_year (y +ℤ pos k) = ap new_year same in
    let near = week_one_near y in
    absurd (omega (arith, ints, first_year, e.1, e.3)))
    (λ last.
    let same : y ≡ neg_ℤ (pos 10000) = omega (arith, ints) in
    let start : week_one y ≡ neg_ℤ (pos 4_371_951) = ap week_one same ∙ first_week_one in
    let year : new_year (y +ℤ pos 1) ≡ neg_ℤ (pos 4_371_587) = ap (λ (z : ℤ). new_year (z +ℤ pos 1)) same ∙ first_year in
    absurd (omega (arith, ints, e.1, e.3, e.4)))

last_week : (ww weeks : ℕ) → ww ≤ 53 → 52 ≤ weeks → (ww ≡ 53 → 53 ≤ weeks) → ww ≤ weeks
last_week ww weeks most least last = grind arith

pub week_is : (y : ℤ) (ww : ℕ) (w : Weekday) (d : ℕ) → monday_zero w + 1 ≡ d → Exists (Week y ww d) × IsCivilDay (day_of (Week y ww d))
    → IsIsoWeekDate y (pos ww) w
week_is y ww w d same h =
    let e = h.0 in
    let civil = is_civil _ h.1 in
    let first : week_one y ≤ℤ day_of (Week y ww d) = omega (arith, ints, e.0, e.2) in
    let in_range : IsYear y = (
      by_lt_z y (neg_ℤ (pos 9999)) (λ far. absurd (early_week y ww d e civil.0 (omega (arith, ints)))) (λ near. near),
      by_lt_z (pos 9999) y (λ far. absurd (late_week y _ first civil.1 (omega (arith, ints)))) (λ near. near),
    ) in
    let next = next_week_one y in_range in
    let near = week_one_near (y +ℤ pos 1) in
    let most : pos ww ≤ℤ pos (weeks_in_year y) = let few = last_week ww (weeks_in_year y) e.1 next.1
    (λ last. let late = e.4 last in omega (arith, ints)) in omega (arith, ints) in
    (in_range, (omega (arith, ints, e.0), most), rw (week_day y ww w d in_range.0 e.0 same) civil)
