-- Years that are a multiple of 10,000 apart have the same days.
use Rattle.std.proofs.Common.{◌≡◌, ℕ, ◌+◌, ◌-◌, ◌%◌, ◌≤◌, ◌==◌, ◌&&◌, ◌||◌, not, Bool, true, false, cond, nat_lt, refl, sym, ◌∙◌, ap, inl}
use Rattle.std.proofs.Common.{inr, arith}
use Rattle.std.specs.Prelude.{◌↔◌, ◌⊎◌, unsigned_abs}
use Rattle.std.proofs.lemmas.Int.{ints}
use Rattle.std.proofs.lemmas.Bool.Decides.{nat_tests}
use Rattle.scan_core.specs.Calendar.{days_in_month, is_leap_year}
use Rattle.iso8601.specs.Calendar.{Exists}
use Rattle.iso8601.specs.declared.types.Date.TheVariants.{YMD}
use Rattle.pg_timestamp.specs.Dates.{calendar_year, held_year}
use Rattle.pg_timestamp.proofs.YearFacts.{held_above, held_below}

leap_by : ℕ → ℕ → ℕ → Bool
leap_by a b c = (a == 0) && (not (b == 0) || (c == 0))

leap_same : (a b : ℕ) → a % 400 ≡ b % 400 → leap_by (a % 4) (a % 100) (a % 400) ≡ leap_by (b % 4) (b % 100) (b % 400)
leap_same a b same =
    let four : a % 4 ≡ b % 4 = omega (arith, same) in
    let hundred : a % 100 ≡ b % 100 = omega (arith, same) in
    rw (four, hundred, same) refl

-- the magnitude of a year in the calendar
magnitude : Bool → ℕ → ℕ
magnitude true n = n - 1
magnitude false n = n

magnitude_is : (bc : Bool) (n : ℕ) → 1 ≤ n → unsigned_abs (calendar_year bc n) ≡ magnitude bc n
unfolding magnitude
magnitude_is true n some = omega (arith, ints, some)
magnitude_is false n some = refl

same_rest : (bc : Bool) (n m : ℕ) → 1 ≤ n → 1 ≤ m → n % 400 ≡ m % 400 → magnitude bc n % 400 ≡ magnitude bc m % 400
unfolding magnitude
same_rest true n m some some_too same = omega (arith, some, some_too, same)
same_rest false n m some some_too same = same

year_leap : (bc : Bool) (n : ℕ) → 1 ≤ n → is_leap_year (calendar_year bc n)
    ≡ leap_by (magnitude bc n % 4) (magnitude bc n % 100) (magnitude bc n % 400)
unfolding leap_by
year_leap bc n some = ap (λ (k : ℕ). (k % 4 == 0) && (not (k % 100 == 0) || (k % 400 == 0))) (magnitude_is bc n some)

leap_held : (bc : Bool) (n m : ℕ) → 1 ≤ n → 1 ≤ m → n % 400 ≡ m % 400
    → is_leap_year (calendar_year bc n) ≡ is_leap_year (calendar_year bc m)
leap_held bc n m some some_too same =
    year_leap bc n some ∙ leap_same (magnitude bc n) (magnitude bc m) (same_rest bc n m some some_too same) ∙ sym (year_leap bc m some_too)

month_of : ℕ → Bool → ℕ
month_of month leap = cond (month == 2) (cond leap 29 28) (cond ((month == 4) || (month == 6) || (month == 9) || (month == 11)) 30 31)

days_held : (bc : Bool) (n m month : ℕ) → 1 ≤ n → 1 ≤ m → n % 400 ≡ m % 400
    → days_in_month (calendar_year bc n) month ≡ days_in_month (calendar_year bc m) month
unfolding month_of
days_held bc n m month some some_too same = ap (month_of month) (leap_held bc n m some some_too same)

held_by : (t : Bool) (n : ℕ) → nat_lt n 40_000 ≡ t → (held_year n ≡ n) ⊎ ((40_000 ≤ n) × (held_year n ≡ 40_000 + n % 10_000))
held_by true n h = inl (held_below n (grind (arith, nat_tests)))
held_by false n h = let above : 40_000 ≤ n = grind (arith, nat_tests) in inr (above, held_above n above)

exists_as : (bc : Bool) (n m month day : ℕ) → days_in_month (calendar_year bc n) month ≡ days_in_month (calendar_year bc m) month
    → Exists (YMD (calendar_year bc n) month day) ↔ Exists (YMD (calendar_year bc m) month day)
exists_as bc n m month day same =
    (λ e. (e.0, e.1, e.2, let most = e.3 in omega (arith, same, most)), λ e. (e.0, e.1, e.2, let most = e.3 in omega (arith, same, most)))

exists_by : (bc : Bool) (n month day : ℕ) → (held_year n ≡ n) ⊎ ((40_000 ≤ n) × (held_year n ≡ 40_000 + n % 10_000))
    → Exists (YMD (calendar_year bc (held_year n)) month day) ↔ Exists (YMD (calendar_year bc n) month day)
exists_by bc n month day (inl same) = rw same (λ e. e, λ e. e)
exists_by bc n month day (inr (above, is)) =
    rw is (exists_as bc (40_000 + n % 10_000) n month day (days_held bc (40_000 + n % 10_000) n month (omega arith) (omega (arith, above))
    (omega arith)))

pub exists_held : (bc : Bool) (n month day : ℕ) → Exists (YMD (calendar_year bc (held_year n)) month day)
    ↔ Exists (YMD (calendar_year bc n) month day)
exists_held bc n month day = exists_by bc n month day (held_by (nat_lt n 40_000) n refl)
