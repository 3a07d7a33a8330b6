-- Written dates: how long they are, and that they are in the grammars.
use Rattle.std.proofs.Common.{◌≡◌, ℕ, ◌-◌, ◌<◌, ◌≤◌, ◌==◌, ◌||◌, Bool, true, false, cond, List, [], length, get_or, refl, arith}
use Rattle.std.proofs.lemmas.Fmt.{length-decimal-le}
use Rattle.std.specs.Prelude.{decimal}
use Rattle.internet_dates.specs.Names.{day_names, month_names, day_name, month_name}
use Rattle.std.specs.Prelude.{pos}
use Rattle.scan_core.specs.Calendar.{is_leap_year}
use Rattle.internet_dates.specs.DateTimes.{IsRealMoment}
use Rattle.internet_dates.specs.declared.date_time.DateTime.{DateTime}
use Rattle.internet_dates.proofs.NameFacts.{AllBelow, below}

abbrev AreThreeLong : List (List ℕ) → ℕ → Type 0
AreThreeLong names k = length (get_or names k []) ≡ 3

days_long : AllBelow (AreThreeLong day_names) 7
days_long = (refl, (refl, (refl, (refl, (refl, (refl, (refl, tt)))))))

months_long : AllBelow (AreThreeLong month_names) 12
months_long = (refl, (refl, (refl, (refl, (refl, (refl, (refl, (refl, (refl, (refl, (refl, (refl, tt))))))))))))

pub length_day_name : (weekday : ℕ) → weekday < 7 → length (day_name weekday) ≡ 3
length_day_name weekday h = below (AreThreeLong day_names) 7 days_long weekday h

pub length_month_name : (month : ℕ) → 1 ≤ month → month ≤ 12 → length (month_name month) ≡ 3
length_month_name month some most = below (AreThreeLong month_names) 12 months_long (month - 1) (omega (arith, some, most))

pub length_year : (n : ℕ) → n ≤ 9999 → length (decimal n) ≤ 4
length_year n most = length-decimal-le 4 n (omega arith) (omega (arith, most)) (omega (arith, most))

month_most : (a b c : Bool) → cond a (cond b 29 28) (cond c 30 31) ≤ 31
month_most true true c = omega arith
month_most true false c = omega arith
month_most false b true = omega arith
month_most false b false = omega arith

pub most_days : (t : DateTime) → IsRealMoment t → t.day ≤ 31
most_days t r =
    let month : ℕ = t.month in
    let most = month_most (month == 2) (is_leap_year (pos t.year)) ((month == 4) || (month == 6) || (month == 9) || (month == 11)) in
    let day = r.day.3 in
    omega (arith, most, day)
