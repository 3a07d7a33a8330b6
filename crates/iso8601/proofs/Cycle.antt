-- A date exists exactly where it does 400 years later, and from 2000 to 2399 each day is a civil one.
use Rattle.std.proofs.Common.{◌≡◌, ℕ, ◌/◌, ◌==◌, ◌||◌, Bool, cond, ℤ, pos, negsuc, ◌∙◌, ap, arith}
use Rattle.std.specs.Prelude.{◌↔◌, neg_ℤ, unsigned_abs, ◌+ℤ◌, ◌-ℤ◌, ◌*ℤ◌, ◌≤ℤ◌}
use Rattle.std.specs.Int.{int_rem_euclid}
use Rattle.std.proofs.lemmas.Int.{ints}
use Rattle.jiff_core.specs.Calendar.{IsBetween}
use Rattle.iso8601.specs.Calendar.{new_year, week_one, day_of, Exists, IsCivilDay}
use Rattle.iso8601.specs.Calendar.{days_in_year}
use Rattle.scan_core.specs.Calendar.{days_in_month}
use Rattle.iso8601.specs.inside.Cycles.{IsCycled}
use Rattle.iso8601.specs.declared.types.Date.TheVariants.{YMD, Week, Ordinal}
use Rattle.iso8601.proofs.Years.{new_year-later, new_year-cycle, days_in_year-cycle, leap_year-cycle, week_one-cycle, week_one_near}
use Rattle.iso8601.proofs.CivilDays.{first_year, last_year, civil_is, in_years, ymd_bounds, ordinal_bounds}

month_days : Bool → ℕ → ℕ
month_days leap month = cond (month == 2) (cond leap 29 28) (cond ((month == 4) || (month == 6) || (month == 9) || (month == 11)) 30 31)

days_in_month-cycle : (y later : ℤ) (m : ℕ) → IsCycled y later → days_in_month later m ≡ days_in_month y m
unfolding month_days
days_in_month-cycle y later m c = ap (λ (z : ℤ). days_in_month z m) c.1 ∙ ap (λ (b : Bool). month_days b m) (leap_year-cycle y c.0)

pub ymd_cycled : (y later : ℤ) (m d : ℕ) → IsCycled y later → Exists (YMD later m d) ↔ Exists (YMD y m d)
ymd_cycled y later m d c =
    let same = days_in_month-cycle y later m c in
    (λ e. (e.0, e.1, e.2, omega (arith, e.3)), λ e. (e.0, e.1, e.2, omega (arith, e.3)))

pub ordinal_cycled : (y later : ℤ) (ddd : ℕ) → IsCycled y later → Exists (Ordinal later ddd) ↔ Exists (Ordinal y ddd)
ordinal_cycled y later ddd c =
    let same : days_in_year later ≡ days_in_year y = ap (λ (z : ℤ). days_in_year z) c.1 ∙ days_in_year-cycle y c.0 in
    (λ e. (e.0, omega (arith, e.1)), λ e. (e.0, omega (arith, e.1)))

next_cycle : (y later k : ℤ) → later ≡ y +ℤ (pos 400 *ℤ k) → later +ℤ pos 1 ≡ (y +ℤ pos 1) +ℤ (pos 400 *ℤ k)
next_cycle y later k h = omega (arith, ints)

pub week_cycled : (y later : ℤ) (ww d : ℕ) → IsCycled y later → Exists (Week later ww d) ↔ Exists (Week y ww d)
week_cycled y later ww d c =
    let start : week_one later ≡ week_one y +ℤ (pos 146_097 *ℤ c.0) = ap week_one c.1 ∙ week_one-cycle y c.0 in
    let next : new_year (later +ℤ pos 1) ≡ new_year (y +ℤ pos 1) +ℤ (pos 146_097 *ℤ c.0) = ap new_year (next_cycle y later c.0 c.1)
    ∙ new_year-cycle (y +ℤ pos 1) c.0 in (
      λ e. (e.0, e.1, e.2, e.3, λ last. let before = e.4 last in omega (arith, ints)),
      λ e.
          (e.0, e.1, e.2, e.3, λ last. let before = e.4 last in omega (arith, ints)),
    )

-- ---- the years from 2000 to 2399

near : (y : ℤ) → IsBetween (pos 2000) (pos 2399) y → (neg_ℤ (pos 4_371_000) ≤ℤ new_year y) × (new_year y ≤ℤ pos 2_932_000)
near y b =
    let k : ℕ = unsigned_abs (y +ℤ pos 9999) in
    let n : ℕ = unsigned_abs (pos 10000 -ℤ y) in
    let from : y ≡ neg_ℤ (pos 9999) +ℤ pos k = omega (arith, ints) in
    let to : pos 10000 ≡ y +ℤ pos n = omega (arith, ints) in
    let first = new_year-later (neg_ℤ (pos 9999)) k in
    let last = new_year-later y n in
    let here : new_year y ≡ new_year (neg_ℤ (pos 9999) +ℤ pos k) = ap new_year from in
    let end : new_year (pos 10000) ≡ new_year (y +ℤ pos n) = ap new_year to in
    (omega (arith, ints, first_year), omega (arith, ints, last_year))

pub ymd_civil : (y : ℤ) (m d : ℕ) → IsBetween (pos 2000) (pos 2399) y → Exists (YMD y m d) → IsCivilDay (day_of (YMD y m d))
ymd_civil y m d b e = let days = ymd_bounds y m d e in civil_is _ (in_years y _ (omega (arith, ints), omega (arith, ints)) days.0 days.1)

pub ordinal_civil : (y : ℤ) (ddd : ℕ) → IsBetween (pos 2000) (pos 2399) y → Exists (Ordinal y ddd) → IsCivilDay (day_of (Ordinal y ddd))
ordinal_civil y ddd b e = let days = ordinal_bounds y ddd e in civil_is _
    (in_years y _ (omega (arith, ints), omega (arith, ints)) days.0 days.1)

pub week_civil : (y : ℤ) (ww d : ℕ) → IsBetween (pos 2000) (pos 2399) y → Exists (Week y ww d) → IsCivilDay (day_of (Week y ww d))
week_civil y ww d b e =
    let year = near y b in
    let start = week_one_near y in
    civil_is _ (omega (arith, ints, e.0, e.2), omega (arith, ints, e.1, e.3))

-- ---- the year of the code

pub cycle_of : (y : ℤ) → IsCycled y (pos 2000 +ℤ int_rem_euclid y (pos 400))
cycle_of (pos a) = (pos 5 -ℤ pos (a / 400), omega (arith, ints))
cycle_of (negsuc a) = (pos 5 -ℤ negsuc (a / 400), omega (arith, ints))
