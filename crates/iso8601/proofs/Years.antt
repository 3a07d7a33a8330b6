-- Years in a row: each begins behind the days of the one before, and 400 years later the calendar and its weeks repeat.
use Rattle.std.proofs.Common.{◌≡◌, ℕ, zero, suc, ◌+◌, ◌%◌, ◌/◌, ◌<◌, ◌≤◌, ◌==◌, ◌&&◌, ◌||◌, not, Bool, true, false, cond, ℤ, pos, negsuc}
use Rattle.std.proofs.Common.{refl, ◌∙◌, ap, add-zero, arith}
use Rattle.std.proofs.lemmas.Bool.{eqb-true}
use Rattle.std.specs.Prelude.{unsigned_abs, ◌+ℤ◌, ◌-ℤ◌, ◌*ℤ◌, ◌<ℤ◌, ◌≤ℤ◌}
use Rattle.std.specs.Int.{int_div_euclid, int_rem_euclid}
use Rattle.std.proofs.lemmas.Int.{ints}
use Rattle.std.proofs.lemmas.Bool.Decides.{nat_tests}
use Rattle.iso8601.specs.Calendar.{leap_years, new_year, after_monday, week_one}
use Rattle.iso8601.specs.Calendar.{days_in_year}
use Rattle.iso8601.specs.inside.Cycles.{is_multiple}
use Rattle.scan_core.specs.Calendar.{is_leap_year}

-- ---- quotients of years

pub four : (z : ℤ) → ((pos 4 *ℤ int_div_euclid z (pos 4)) ≤ℤ z) × (z <ℤ ((pos 4 *ℤ int_div_euclid z (pos 4)) +ℤ pos 4))
four (pos a) = (omega (arith, ints), omega (arith, ints))
four (negsuc a) = (omega (arith, ints), omega (arith, ints))

pub hundred : (z : ℤ) → ((pos 100 *ℤ int_div_euclid z (pos 100)) ≤ℤ z) × (z <ℤ ((pos 100 *ℤ int_div_euclid z (pos 100)) +ℤ pos 100))
hundred (pos a) = (omega (arith, ints), omega (arith, ints))
hundred (negsuc a) = (omega (arith, ints), omega (arith, ints))

pub four_hundred : (z : ℤ) → ((pos 400 *ℤ int_div_euclid z (pos 400)) ≤ℤ z) × (z <ℤ ((pos 400 *ℤ int_div_euclid z (pos 400)) +ℤ pos 400))
four_hundred (pos a) = (omega (arith, ints), omega (arith, ints))
four_hundred (negsuc a) = (omega (arith, ints), omega (arith, ints))

-- ---- leap years

abbrev one_if : Bool → ℤ
one_if b = cond b (pos 1) (pos 0)

-- ---- a quotient rises at a multiple

not_zero : (k : ℕ) → (k == 0) ≡ false → 0 < k
not_zero k h = grind (arith, nat_tests)

rise_four : (a : ℕ) (t : Bool) → (suc a % 4 == 0) ≡ t → suc a / 4 ≡ a / 4 + cond t 1 0
rise_four a true h = let e = eqb-true (suc a % 4) 0 h in omega arith
rise_four a false h = let e = not_zero (suc a % 4) h in omega arith

rise_hundred : (a : ℕ) (t : Bool) → (suc a % 100 == 0) ≡ t → suc a / 100 ≡ a / 100 + cond t 1 0
rise_hundred a true h = let e = eqb-true (suc a % 100) 0 h in omega arith
rise_hundred a false h = let e = not_zero (suc a % 100) h in omega arith

rise_four_hundred : (a : ℕ) (t : Bool) → (suc a % 400 == 0) ≡ t → suc a / 400 ≡ a / 400 + cond t 1 0
rise_four_hundred a true h = let e = eqb-true (suc a % 400) 0 h in omega arith
rise_four_hundred a false h = let e = not_zero (suc a % 400) h in omega arith

above : (x y : ℕ) (t : Bool) → x ≡ y + cond t 1 0 → pos x ≡ pos y +ℤ one_if t
above x y true h = omega (arith, ints)
above x y false h = omega (arith, ints)

below : (x y : ℕ) (t : Bool) → x ≡ y + cond t 1 0 → negsuc y ≡ negsuc x +ℤ one_if t
below x y true h = omega (arith, ints)
below x y false h = omega (arith, ints)

one_less : (a : ℕ) → pos (suc a) -ℤ pos 1 ≡ pos a
one_less a = omega (arith, ints)

step_four : (y : ℤ) → int_div_euclid y (pos 4) ≡ int_div_euclid (y -ℤ pos 1) (pos 4) +ℤ one_if (is_multiple 4 y)
step_four (pos zero) = refl
step_four (pos (suc a)) = rw (one_less a) (above (suc a / 4) (a / 4) (suc a % 4 == 0) (rise_four a _ refl))
step_four (negsuc a) = rw (add-zero a) (below (suc a / 4) (a / 4) (suc a % 4 == 0) (rise_four a _ refl))

step_hundred : (y : ℤ) → int_div_euclid y (pos 100) ≡ int_div_euclid (y -ℤ pos 1) (pos 100) +ℤ one_if (is_multiple 100 y)
step_hundred (pos zero) = refl
step_hundred (pos (suc a)) = rw (one_less a) (above (suc a / 100) (a / 100) (suc a % 100 == 0) (rise_hundred a _ refl))
step_hundred (negsuc a) = rw (add-zero a) (below (suc a / 100) (a / 100) (suc a % 100 == 0) (rise_hundred a _ refl))

step_four_hundred : (y : ℤ) → int_div_euclid y (pos 400) ≡ int_div_euclid (y -ℤ pos 1) (pos 400) +ℤ one_if (is_multiple 400 y)
step_four_hundred (pos zero) = refl
step_four_hundred (pos (suc a)) = rw (one_less a) (above (suc a / 400) (a / 400) (suc a % 400 == 0) (rise_four_hundred a _ refl))
step_four_hundred (negsuc a) = rw (add-zero a) (below (suc a / 400) (a / 400) (suc a % 400 == 0) (rise_four_hundred a _ refl))

leap_if : (four hundred all : Bool) → (all ≡ true → hundred ≡ true) → (hundred ≡ true → four ≡ true)
    → (one_if four -ℤ one_if hundred) +ℤ one_if all ≡ one_if (four && (not hundred || all))
leap_if true true true h k = refl
leap_if true true false h k = refl
leap_if true false true h k = let never : false ≡ true = h refl in cc
leap_if true false false h k = refl
leap_if false true all h k = let never : false ≡ true = k refl in cc
leap_if false false true h k = let never : false ≡ true = h refl in cc
leap_if false false false h k = refl

multiple_of : (k : ℕ) → k ≡ 0 → (k == 0) ≡ true
multiple_of k h = grind (arith, nat_tests)

-- multiples of 400 are multiples of 100, and these of 4
all_hundred : (y : ℤ) → is_multiple 400 y ≡ true → is_multiple 100 y ≡ true
all_hundred y h = multiple_of (unsigned_abs y % 100) (let e = eqb-true (unsigned_abs y % 400) 0 h in omega arith)

all_four : (y : ℤ) → is_multiple 100 y ≡ true → is_multiple 4 y ≡ true
all_four y h = multiple_of (unsigned_abs y % 4) (let e = eqb-true (unsigned_abs y % 100) 0 h in omega arith)

year_if : (t : Bool) → pos (cond t 366 365) ≡ pos 365 +ℤ one_if t
year_if true = refl
year_if false = refl

sum_of : (y q4 q100 q400 p4 p100 p400 s4 s100 s400 leap last : ℤ) → q4 ≡ p4 +ℤ s4 → q100 ≡ p100 +ℤ s100 → q400 ≡ p400 +ℤ s400
    → (s4 -ℤ s100) +ℤ s400 ≡ leap
    → (pos 365 *ℤ ((y +ℤ pos 1) -ℤ pos 1970)) +ℤ (((q4 -ℤ q100) +ℤ q400) -ℤ last)
    ≡ ((pos 365 *ℤ (y -ℤ pos 1970)) +ℤ (((p4 -ℤ p100) +ℤ p400) -ℤ last)) +ℤ (pos 365 +ℤ leap)
sum_of y q4 q100 q400 p4 p100 p400 s4 s100 s400 leap last a b c d = omega (arith, ints)

same_year : (y : ℤ) → (y +ℤ pos 1) -ℤ pos 1 ≡ y
same_year y = omega (arith, ints)

pub new_year-next : (y : ℤ) → new_year (y +ℤ pos 1) ≡ new_year y +ℤ pos (days_in_year y)
unfolding new_year
new_year-next y =
    rw (same_year y, year_if (is_leap_year y)) (sum_of y _ _ _ (int_div_euclid (y -ℤ pos 1) (pos 4)) (int_div_euclid (y -ℤ pos 1) (pos 100))
    (int_div_euclid (y -ℤ pos 1) (pos 400)) (one_if (is_multiple 4 y)) (one_if (is_multiple 100 y)) (one_if (is_multiple 400 y)) _
    (leap_years (pos 1969)) (step_four y) (step_hundred y) (step_four_hundred y)
    (leap_if (is_multiple 4 y) (is_multiple 100 y) (is_multiple 400 y) (all_hundred y) (all_four y)))

days_if : (t : Bool) → (365 ≤ cond t 366 365) × (cond t 366 365 ≤ 366)
days_if true = (omega arith, omega arith)
days_if false = (omega arith, omega arith)

pub days_in_year_bounds : (y : ℤ) → (365 ≤ days_in_year y) × (days_in_year y ≤ 366)
days_in_year_bounds y = days_if (is_leap_year y)

-- years later
further : (y : ℤ) (k : ℕ) → y +ℤ pos (suc k) ≡ (y +ℤ pos k) +ℤ pos 1
further y k = omega (arith, ints)

pub new_year-later : (y : ℤ) (k : ℕ) → ((new_year y +ℤ (pos 365 *ℤ pos k)) ≤ℤ new_year (y +ℤ pos k))
    × (new_year (y +ℤ pos k) ≤ℤ (new_year y +ℤ (pos 366 *ℤ pos k)))
new_year-later y zero = let same : y +ℤ pos 0 ≡ y = omega (arith, ints) in rw same (omega (arith, ints), omega (arith, ints))
new_year-later y (suc k) =
    let before = new_year-later y k in
    let days = days_in_year_bounds (y +ℤ pos k) in
    let next = new_year-next (y +ℤ pos k) in
    rw (further y k) (omega (arith, ints), omega (arith, ints))

-- ---- 400 years later

cycle_four : (z k : ℤ) → int_div_euclid (z +ℤ (pos 400 *ℤ k)) (pos 4) ≡ int_div_euclid z (pos 4) +ℤ (pos 100 *ℤ k)
cycle_four z k = let a = four z in let b = four (z +ℤ (pos 400 *ℤ k)) in omega (arith, ints)

cycle_hundred : (z k : ℤ) → int_div_euclid (z +ℤ (pos 400 *ℤ k)) (pos 100) ≡ int_div_euclid z (pos 100) +ℤ (pos 4 *ℤ k)
cycle_hundred z k = let a = hundred z in let b = hundred (z +ℤ (pos 400 *ℤ k)) in omega (arith, ints)

cycle_four_hundred : (z k : ℤ) → int_div_euclid (z +ℤ (pos 400 *ℤ k)) (pos 400) ≡ int_div_euclid z (pos 400) +ℤ k
cycle_four_hundred z k = let a = four_hundred z in let b = four_hundred (z +ℤ (pos 400 *ℤ k)) in omega (arith, ints)

one_before : (y k : ℤ) → (y +ℤ (pos 400 *ℤ k)) -ℤ pos 1 ≡ (y -ℤ pos 1) +ℤ (pos 400 *ℤ k)
one_before y k = omega (arith, ints)

cycle_sum : (y k q4 q100 q400 p4 p100 p400 last : ℤ) → q4 ≡ p4 +ℤ (pos 100 *ℤ k) → q100 ≡ p100 +ℤ (pos 4 *ℤ k) → q400 ≡ p400 +ℤ k
    → (pos 365 *ℤ ((y +ℤ (pos 400 *ℤ k)) -ℤ pos 1970)) +ℤ (((q4 -ℤ q100) +ℤ q400) -ℤ last)
    ≡ ((pos 365 *ℤ (y -ℤ pos 1970)) +ℤ (((p4 -ℤ p100) +ℤ p400) -ℤ last)) +ℤ (pos 146_097 *ℤ k)
cycle_sum y k q4 q100 q400 p4 p100 p400 last a b c = omega (arith, ints)

pub new_year-cycle : (y k : ℤ) → new_year (y +ℤ (pos 400 *ℤ k)) ≡ new_year y +ℤ (pos 146_097 *ℤ k)
unfolding new_year
new_year-cycle y k =
    let z : ℤ = y -ℤ pos 1 in
    rw (one_before y k) (cycle_sum y k _ _ _ (int_div_euclid z (pos 4)) (int_div_euclid z (pos 100)) (int_div_euclid z (pos 400))
    (leap_years (pos 1969)) (cycle_four z k) (cycle_hundred z k) (cycle_four_hundred z k))

next_cycle : (y k : ℤ) → (y +ℤ (pos 400 *ℤ k)) +ℤ pos 1 ≡ (y +ℤ pos 1) +ℤ (pos 400 *ℤ k)
next_cycle y k = omega (arith, ints)

pub days_in_year-cycle : (y k : ℤ) → days_in_year (y +ℤ (pos 400 *ℤ k)) ≡ days_in_year y
days_in_year-cycle y k =
    let a = new_year-next (y +ℤ (pos 400 *ℤ k)) in
    let b = new_year-next y in
    let c = new_year-cycle y k in
    let d : new_year ((y +ℤ (pos 400 *ℤ k)) +ℤ pos 1) ≡ new_year (y +ℤ pos 1) +ℤ (pos 146_097 *ℤ k) = ap new_year (next_cycle y k)
    ∙ new_year-cycle (y +ℤ pos 1) k in
    omega (arith, ints)

same_if : (s t : Bool) → cond {A = ℕ} s 366 365 ≡ cond {A = ℕ} t 366 365 → s ≡ t
same_if true true h = refl
same_if true false h = absurd (omega arith)
same_if false true h = absurd (omega arith)
same_if false false h = refl

pub leap_year-cycle : (y k : ℤ) → is_leap_year (y +ℤ (pos 400 *ℤ k)) ≡ is_leap_year y
leap_year-cycle y k = same_if (is_leap_year (y +ℤ (pos 400 *ℤ k))) (is_leap_year y) (days_in_year-cycle y k)

-- ---- weeks

-- a day is some weeks and a number of days below 7 after a Monday
weeks_of : (z : ℤ) → (q : ℤ) × (z ≡ (pos 7 *ℤ q) +ℤ int_rem_euclid z (pos 7)) × (pos 0 ≤ℤ int_rem_euclid z (pos 7))
    × (int_rem_euclid z (pos 7) <ℤ pos 7)
weeks_of (pos a) = (pos (a / 7), omega (arith, ints), omega (arith, ints), omega (arith, ints))
weeks_of (negsuc a) = (negsuc (a / 7), omega (arith, ints), omega (arith, ints), omega (arith, ints))

pub after_monday_bounds : (day : ℤ) → (pos 0 ≤ℤ after_monday day) × (after_monday day <ℤ pos 7)
unfolding after_monday
after_monday_bounds day = let w = weeks_of (day +ℤ pos 3) in (w.2, w.3)

pub after_monday-weeks : (day k : ℤ) → after_monday (day +ℤ (pos 7 *ℤ k)) ≡ after_monday day
unfolding after_monday
after_monday-weeks day k = let a = weeks_of (day +ℤ pos 3) in let b = weeks_of ((day +ℤ (pos 7 *ℤ k)) +ℤ pos 3) in omega (arith, ints)

pub week_one_near : (y : ℤ) → (new_year y ≤ℤ (week_one y +ℤ pos 3)) × (week_one y ≤ℤ (new_year y +ℤ pos 3))
unfolding week_one
week_one_near y = let w = after_monday_bounds (new_year y +ℤ pos 3) in (omega (arith, ints), omega (arith, ints))

later_weeks : (n k : ℤ) → (n +ℤ (pos 146_097 *ℤ k)) +ℤ pos 3 ≡ (n +ℤ pos 3) +ℤ (pos 7 *ℤ (pos 20_871 *ℤ k))
later_weeks n k = omega (arith, ints)

pub week_one-cycle : (y k : ℤ) → week_one (y +ℤ (pos 400 *ℤ k)) ≡ week_one y +ℤ (pos 146_097 *ℤ k)
unfolding week_one
week_one-cycle y k =
    let same : after_monday ((new_year y +ℤ (pos 146_097 *ℤ k)) +ℤ pos 3)
    ≡ after_monday (new_year y +ℤ pos 3) = ap after_monday (later_weeks (new_year y) k)
    ∙ after_monday-weeks (new_year y +ℤ pos 3) (pos 20_871 *ℤ k) in
    rw (new_year-cycle y k, same) (omega (arith, ints))

monday_of : (day : ℤ) → after_monday (day -ℤ after_monday day) ≡ pos 0
unfolding after_monday
monday_of day =
    let a = weeks_of (day +ℤ pos 3) in
    let b = weeks_of ((day -ℤ int_rem_euclid (day +ℤ pos 3) (pos 7)) +ℤ pos 3) in
    omega (arith, ints)

pub week_one_monday : (y : ℤ) → after_monday (week_one y) ≡ pos 0
unfolding week_one
week_one_monday y = monday_of (new_year y +ℤ pos 3)

pub first_day : new_year (pos 1970) ≡ pos 0
unfolding new_year
first_day = refl
