-- What the fields of a date word say of its day.
use Rattle.std.proofs.Common.{◌≡◌, ℕ, ◌+◌, ◌^◌, ◌<◌, ◌≤◌, ℤ, pos, refl, arith}
use Rattle.std.proofs.lemmas.Int.{ints}
use Rattle.jiff.specs.Types.{Date}
use Rattle.jiff.specs.Words.{IsDate, days_in_month}
use Rattle.dos_date.specs.Bits.{bits}
use Rattle.dos_date.specs.DateWord.{IsDateWord, IsRealDay}

-- the parts of a date are those of a real day
pub parts_are_real : (date : Date) (y m d : ℤ) → date.year ≡ y → pos date.month ≡ m
    → pos date.day ≡ d → IsDate y m d
parts_are_real date y m d year month day =
    rw (← year, ← month, ← day) (omega (arith, ints), omega (arith, ints), omega (arith, ints))

-- no month has more than 31 days
pub days_in_month-le : (y : ℤ) (m : ℕ) → days_in_month y m ≤ 31
days_in_month-le y m = grind arith

-- the same day, by numbers that are equal
pub same_day : (y y' m m' d d' : ℤ) → y ≡ y' → m ≡ m' → d ≡ d' → IsDate y m d → IsDate y' m' d'
same_day y y' m m' d d' year month day real = rw (← year, ← month, ← day) real

-- the word of a civil date holds its fields
pub IsRealDay-date : (word : ℕ) (date : Date) → IsDateWord word date → IsRealDay word
IsRealDay-date word date has =
    let short : date.day < 32 = omega (arith, days_in_month-le date.year date.month) in
    parts_are_real date _ _ _ (omega (arith, ints)) (omega (arith, ints)) (omega (arith, ints))

-- the civil date of a word's fields
pub real_date : (word : ℕ) → word < 2 ^ 16 → IsRealDay word → (date : Date) × IsDateWord word date
real_date word fits real = (
  record {
    year = pos (1980 + bits 9 7 word);
    month = bits 5 4 word;
    day = bits 0 5 word;
    year_in = real.0;
    month_in = omega (arith, ints, real);
    day_in = omega (arith, ints, real);
  },
  (bits 9 7 word, refl, omega arith, omega arith),
)

-- a date word names one day
pub one_day : (word : ℕ) (a b : Date) → IsDateWord word a → IsDateWord word b
    → (a.year ≡ b.year) × (a.month ≡ b.month) × (a.day ≡ b.day)
one_day word a b first second =
    let short : a.day < 32 = omega (arith, days_in_month-le a.year a.month) in
    let short' : b.day < 32 = omega (arith, days_in_month-le b.year b.month) in
    (omega (arith, ints), omega arith, omega arith)
