-- A day is one real date's.
use Rattle.std.proofs.Common.{◌≡◌, ℕ, zero, suc, ◌+◌, ◌-◌, ◌<◌, ◌≤◌, ◌==◌, ◌||◌, Bool, true, false, cond, refl, sym, ◌∙◌, ap, arith}
use Rattle.std.specs.Prelude.{ℤ, pos, neg_ℤ, unsigned_abs, ◌+ℤ◌, ◌-ℤ◌, ◌<ℤ◌, ◌≤ℤ◌}
use Rattle.std.proofs.lemmas.Int.{ints}
use Rattle.scan_core.specs.Calendar.{days_in_month, is_leap_year}
use Rattle.iso8601.specs.Calendar.{day_of, days_in_year, days_of_months, Exists, new_year}
use Rattle.iso8601.specs.declared.types.Date.TheVariants.{YMD}
use Rattle.pg_timestamp.specs.Dates.{IsRealDate, calendar_year, date_number}
use Rattle.pg_timestamp.specs.Values.{first_day, last_day}
use Rattle.pg_timestamp.specs.declared.date.Date.{Date}
use Rattle.pg_timestamp.proofs.PlaceFacts.{date_is}

-- ---- the months of a year

month_of : ℕ → Bool → ℕ
month_of month leap = cond (month == 2) (cond leap 29 28) (cond ((month == 4) || (month == 6) || (month == 9) || (month == 11)) 30 31)

months_of : Bool → ℕ → ℕ
months_of leap zero = 0
months_of leap (suc n) = months_of leap n + month_of (suc n) leap

months_as : (y : ℤ) (n : ℕ) → days_of_months y n ≡ months_of (is_leap_year y) n
unfolding days_of_months month_of months_of
months_as y zero = refl
months_as y (suc n) = ap (λ (k : ℕ). k + days_in_month y (suc n)) (months_as y n)

twelve : (leap : Bool) → months_of leap 12 ≡ cond leap 366 365
unfolding month_of months_of
twelve true = refl
twelve false = refl

whole_year : (y : ℤ) → days_of_months y 12 ≡ days_in_year y
whole_year y = months_as y 12 ∙ twelve (is_leap_year y)

months_more : (y : ℤ) (m : ℕ) → 1 ≤ m → days_of_months y m ≡ days_of_months y (m - 1) + days_in_month y m
unfolding days_of_months
months_more y zero some = absurd (omega arith)
months_more y (suc m) some = let same : suc m - 1 ≡ m = omega arith in rw same refl

months_rise : (y : ℤ) (m k : ℕ) → days_of_months y m ≤ days_of_months y (m + k)
unfolding days_of_months
months_rise y m zero = let same : m + 0 ≡ m = omega arith in rw same (omega arith)
months_rise y m (suc k) = let before = months_rise y m k in let next : m + suc k ≡ suc (m + k) = omega arith in
    rw next (omega (arith, before))

-- ---- years follow each other

abbrev pub YearsFollow : Type 0
YearsFollow = (year : ℤ) → new_year (year +ℤ pos 1) ≡ new_year year +ℤ pos (days_in_year year)

rise_by : YearsFollow → (w : ℤ) (k : ℕ) → new_year w ≤ℤ new_year (w +ℤ pos k)
rise_by next w zero = let same : w +ℤ pos 0 ≡ w = omega (arith, ints) in rw same (omega (arith, ints))
rise_by next w (suc k) =
    let before = rise_by next w k in
    let one = next (w +ℤ pos k) in
    let there : w +ℤ pos (suc k) ≡ (w +ℤ pos k) +ℤ pos 1 = omega (arith, ints) in
    rw there (omega (arith, ints, before, one))

rises : YearsFollow → (w z : ℤ) → w ≤ℤ z → new_year w ≤ℤ new_year z
rises next w z less =
    let k : ℕ = unsigned_abs (z -ℤ w) in
    let there : w +ℤ pos k ≡ z = omega (arith, ints, less) in
    rw there at (rise_by next w k)

-- a real day is of its year
in_year : YearsFollow → (y : ℤ) (m d : ℕ) → Exists (YMD y m d) → (new_year y ≤ℤ day_of (YMD y m d))
    × (day_of (YMD y m d) <ℤ new_year (y +ℤ pos 1))
in_year next y m d e =
    let least = e.2 in
    let most = e.3 in
    let more = months_more y m e.0 in
    let last = e.1 in
    let to : m + (12 - m) ≡ 12 = omega (arith, last) in
    let rise : days_of_months y m ≤ days_of_months y 12 = rw to at (months_rise y m (12 - m)) in
    let year = whole_year y in
    let one = next y in
    (omega (arith, ints, least), omega (arith, ints, most, more, rise, year, one))

not_before : YearsFollow → (y z : ℤ) (m d n e : ℕ) → Exists (YMD y m d) → Exists (YMD z n e) → day_of (YMD y m d) ≡ day_of (YMD z n e)
    → y <ℤ z → ⊥
not_before next y z m d n e first second same less =
    let a = (in_year next y m d first).1 in
    let b = (in_year next z n e second).0 in
    let r = rises next (y +ℤ pos 1) z (omega (arith, ints, less)) in
    omega (arith, ints, same, a, b, r)

same_year : (y z : ℤ) → (y <ℤ z → ⊥) → (z <ℤ y → ⊥) → y ≡ z
same_year y z a b = grind (arith, ints)

month_not_before : (y : ℤ) (m d n e : ℕ) → Exists (YMD y m d) → Exists (YMD y n e)
    → days_of_months y (m - 1) + d ≡ days_of_months y (n - 1) + e → m < n → ⊥
month_not_before y m d n e first second same less =
    let more = months_more y m first.0 in
    let rise = months_rise y m (n - 1 - m) in
    let to : m + (n - 1 - m) ≡ n - 1 = omega (arith, less) in
    let rise_to : days_of_months y m ≤ days_of_months y (n - 1) = rw to at rise in
    let most = first.3 in
    let least = second.2 in
    omega (arith, same, more, rise_to, most, least)

same_in_year : (y : ℤ) (m d n e : ℕ) → Exists (YMD y m d) → Exists (YMD y n e) → day_of (YMD y m d) ≡ day_of (YMD y n e) → (m ≡ n) × (d ≡ e)
same_in_year y m d n e first second same =
    let some = first.2 in
    let some_too = second.2 in
    let sums : days_of_months y (m - 1) + d ≡ days_of_months y (n - 1) + e = omega (arith, ints, same, some, some_too) in
    let not_less = month_not_before y m d n e first second sums in
    let not_more = month_not_before y n e m d second first (sym sums) in
    let months : m ≡ n = grind arith in
    (months, let months_are = ap (λ (k : ℕ). days_of_months y (k - 1)) months in omega (arith, sums, months_are))

one_ymd : YearsFollow → (y z : ℤ) (m d n e : ℕ) → Exists (YMD y m d) → Exists (YMD z n e) → day_of (YMD y m d) ≡ day_of (YMD z n e)
    → (y ≡ z) × (m ≡ n) × (d ≡ e)
one_ymd next y z m d n e first second same =
    let year : y ≡ z = same_year y z (not_before next y z m d n e first second same)
    (not_before next z y n e m d second first (sym same)) in
    let there : Exists (YMD y n e) = rw year second in
    let parts = same_in_year y m d n e first there (same ∙ ap (λ (w : ℤ). day_of (YMD w n e)) (sym year)) in
    (year, parts.0, parts.1)

-- ---- dates with eras

one_year : (a b : Bool) (y z : ℕ) → 1 ≤ y → 1 ≤ z → calendar_year a y ≡ calendar_year b z → (a ≡ b) × (y ≡ z)
one_year true true y z p q h = (refl, omega (arith, ints, h))
one_year false false y z p q h = (refl, omega (arith, ints, h))
one_year true false y z p q h = absurd (omega (arith, ints, h, p, q))
one_year false true y z p q h = absurd (omega (arith, ints, h, p, q))

pub one_date : YearsFollow → (a b : Date) → IsRealDate a → IsRealDate b → date_number a ≡ date_number b → a ≡ b
one_date next a b h k same =
    let parts = one_ymd next (calendar_year a.bc a.year) (calendar_year b.bc b.year) a.month a.day b.month b.day h.day k.day same in
    let years = one_year a.bc b.bc a.year b.year h.year k.year parts.0 in
    date_is a b years.1 parts.1 parts.2 years.0

-- ---- years past the bounds

after_civil : new_year (pos 10_000) ≡ pos 2_932_897
unfolding new_year
after_civil = refl

before_first : (new_year (neg_ℤ (pos 9_999)) +ℤ pos 2) <ℤ first_day
unfolding new_year
before_first = omega (arith, ints)

pub far_years : YearsFollow → (bc : Bool) (year month day : ℕ) → 40_000 ≤ year → Exists (YMD (calendar_year bc year) month day)
    → (first_day -ℤ pos 2) ≤ℤ day_of (YMD (calendar_year bc year) month day) → day_of (YMD (calendar_year bc year) month day) ≤ℤ last_day
    → ⊥
far_years next true year month day large e first last =
    let within = (in_year next (calendar_year true year) month day e).1 in
    let rise = rises next (calendar_year true year +ℤ pos 1) (neg_ℤ (pos 9_999)) (omega (arith, ints, large)) in
    let before = before_first in
    omega (arith, ints, first, within, rise, before)
far_years next false year month day large e first last =
    let within = (in_year next (calendar_year false year) month day e).0 in
    let rise = rises next (pos 10_000) (calendar_year false year) (omega (arith, ints, large)) in
    let after = after_civil in
    omega (arith, ints, last, within, rise, after)
