-- The words of a text written in `postgres` style are words: none is empty, and none has a blank.
use Rattle.std.proofs.Common.{ℕ, ◌<◌, ◌^◌, Bool, true, false, List, [], ◌∷◌, ◌++◌, length, length-append, codes, decimal, ◌==◌, not, ◌&&◌}
use Rattle.std.proofs.Common.{ℤ, pos, int_eq, unsigned_abs, ◌≤◌, refl, arith}
use Rattle.std.proofs.lemmas.Bool.{cond_both}
use Rattle.std.proofs.lemmas.Fmt.{decimal_nonempty}
use Rattle.std.specs.Int.{is_negative}
use Rattle.scan_core.specs.Padded.{padded_digits}
use Rattle.scan_core.proofs.DigitFacts.{digits_decimal}
use Rattle.scan_core.proofs.WordFacts.{NoBlanks}
use Rattle.scan_core.proofs.PaddedFacts.{digits-padded, length-padded}
use Rattle.scan_core.specs.Number.{minus}
use Rattle.pg_interval_2.specs.inside.PartSteps.{years_of, months_of, hours_of, minutes_of, seconds_of, subsecond_of}
use Rattle.pg_interval_2.specs.inside.PostgresSteps.{counted_name, number_words, named_words, clock_words, postgres_words}
use Rattle.pg_interval_2.specs.inside.ClockSteps.{hours_text, field_text, fraction_text, clock_steps}
use Rattle.pg_interval_2.proofs.Spaces.{AreWords}
use Rattle.pg_interval_2.proofs.ItemWords.{no_blanks-append, digits_no_blanks}

pub no_blank-minus : (negative : Bool) → NoBlanks (minus negative)
no_blank-minus true = (refl, tt)
no_blank-minus false = tt

pub counted_name_is : (negative : Bool) (n : ℕ) (name : List ℕ) → 0 < length name → NoBlanks name
    → (0 < length (counted_name negative n name)) × NoBlanks (counted_name negative n name)
unfolding counted_name
counted_name_is negative n name some clear =
    cond_both (not negative && n == 1) _ _ (λ (word : List ℕ). (0 < length word) × NoBlanks word) (λ _. (some, clear))
    (λ _. (omega (arith, length-append name (codes "s")), no_blanks-append name (codes "s") clear (refl, tt)))

-- the words of a number and a word behind it
pub AreWords-number_words : (negative : Bool) (n : ℕ) (word : List ℕ) → n < 2 ^ 64 → (0 < length word) × NoBlanks word
    → AreWords (number_words negative n word)
unfolding number_words
AreWords-number_words negative n word small behind =
    cond_both (n == 0) _ _ AreWords (λ _. tt)
    (λ _. (
      omega (arith, length-append (minus negative) (decimal n), decimal_nonempty n small),
      no_blanks-append (minus negative) (decimal n) (no_blank-minus negative) (digits_no_blanks (decimal n) (digits_decimal n small)),
      (behind.0, behind.1, tt),
    ))

AreWords-named_words : (negative : Bool) (n : ℕ) (name : List ℕ) → n < 2 ^ 64 → 0 < length name → NoBlanks name
    → AreWords (named_words negative n name)
AreWords-named_words negative n name small some clear = AreWords-number_words negative n (counted_name negative n name) small
    (counted_name_is negative n name some clear)

pub year_words : (months : ℤ) → unsigned_abs months ≤ 2 ^ 63 → AreWords (named_words (is_negative months) (years_of months) (codes "year"))
year_words months small = AreWords-named_words (is_negative months) (years_of months) (codes "year") (omega arith) (omega arith)
    (refl, (refl, (refl, (refl, tt))))

pub month_words : (months : ℤ) → unsigned_abs months ≤ 2 ^ 63 → AreWords (named_words (is_negative months) (months_of months) (codes "mon"))
month_words months small = AreWords-named_words (is_negative months) (months_of months) (codes "mon") (omega arith) (omega arith)
    (refl, (refl, (refl, tt)))

pub day_words : (days : ℤ) → unsigned_abs days ≤ 2 ^ 63 → AreWords (named_words (is_negative days) (unsigned_abs days) (codes "day"))
day_words days small = AreWords-named_words (is_negative days) (unsigned_abs days) (codes "day") (omega arith) (omega arith)
    (refl, (refl, (refl, tt)))

-- ---- the word of a clock

no_blank-padded : (width n : ℕ) → n < 2 ^ 64 → NoBlanks (padded_digits width n)
no_blank-padded width n small = digits_no_blanks (padded_digits width n) (digits-padded width n small)

no_blank-field : (n : ℕ) → n < 2 ^ 64 → NoBlanks (field_text n)
unfolding field_text
no_blank-field n small = no_blanks-append (codes ":") (padded_digits 2 n) (refl, tt) (no_blank-padded 2 n small)

no_blank-fraction : (micros : ℕ) → micros < 2 ^ 64 → NoBlanks (fraction_text micros)
unfolding fraction_text
no_blank-fraction micros small =
    cond_both (micros == 0) _ _ (λ text. NoBlanks text) (λ _. tt)
    (λ _. no_blanks-append (codes ".") (padded_digits 6 micros) (refl, tt) (no_blank-padded 6 micros small))

no_blank-clock : (width : ℕ) (micros : ℤ) → unsigned_abs micros ≤ 2 ^ 63 → NoBlanks (clock_steps width micros)
unfolding clock_steps hours_text
no_blank-clock width micros small =
    no_blanks-append (padded_digits width (hours_of micros)) _ (no_blank-padded width (hours_of micros) (omega arith))
    (no_blanks-append (field_text (minutes_of micros)) _ (no_blank-field (minutes_of micros) (omega arith))
    (no_blanks-append (field_text (seconds_of micros)) _ (no_blank-field (seconds_of micros) (omega arith))
    (no_blank-fraction (subsecond_of micros) (omega arith))))

clock_some : (width : ℕ) (micros : ℤ) → unsigned_abs micros ≤ 2 ^ 63 → 0 < length (clock_steps width micros)
unfolding clock_steps hours_text
clock_some width micros small =
    omega (
      arith,
      length-append (padded_digits width (hours_of micros))
          (field_text (minutes_of micros) ++ (field_text (seconds_of micros) ++ fraction_text (subsecond_of micros))),
      length-padded width (hours_of micros),
      decimal_nonempty (hours_of micros) (omega arith),
    )

pub time_words : (micros : ℤ) → unsigned_abs micros ≤ 2 ^ 63 → AreWords (clock_words micros)
unfolding clock_words
time_words micros small =
    cond_both (int_eq micros (pos 0)) _ _ AreWords (λ _. tt)
    (λ _. (
      omega (arith, length-append (minus (is_negative micros)) (clock_steps 2 micros), clock_some 2 micros small),
      no_blanks-append (minus (is_negative micros)) (clock_steps 2 micros) (no_blank-minus (is_negative micros))
          (no_blank-clock 2 micros small),
      tt,
    ))

pub AreWords-append : (xs ys : List (List ℕ)) → AreWords xs → AreWords ys → AreWords (xs ++ ys)
AreWords-append [] ys left right = right
AreWords-append (x ∷ xs) ys left right = (left.0, left.1, AreWords-append xs ys left.2 right)

pub AreWords-postgres_words : (months days micros : ℤ) → unsigned_abs months ≤ 2 ^ 63 → unsigned_abs days ≤ 2 ^ 63
    → unsigned_abs micros ≤ 2 ^ 63
    → AreWords (postgres_words months days micros)
AreWords-postgres_words months days micros small_months small_days small_micros =
    AreWords-append _ _ (year_words months small_months) (AreWords-append _ _ (month_words months small_months)
    (AreWords-append _ _ (day_words days small_days) (time_words micros small_micros)))
