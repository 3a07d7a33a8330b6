-- A text written in `sql_standard` style spells the counts of its interval.
use Rattle.std.proofs.Common.{ℕ, ◌<◌, ◌≤◌, ◌^◌, Bool, true, false, not, ◌&&◌, List, [], ◌∷◌, ◌++◌, length, ◌==◌, codes, decimal}
use Rattle.std.proofs.Common.{if◌then◌else◌, ℤ, pos, unsigned_abs, int_eq, refl, sym, ap, subst, arith, inl, inr}
use Rattle.std.proofs.lemmas.Fmt.{decimal_nonempty}
use Rattle.std.proofs.lemmas.Bool.{cond_both}
use Rattle.std.specs.Int.{is_negative}
use Rattle.std.specs.List.{join_with_byte}
use Rattle.scan_core.specs.Count.{Count, count_of}
use Rattle.scan_core.specs.Padded.{padded_digits}
use Rattle.scan_core.specs.declared.share.Unit.TheVariants.{Year, Month, Day, Hour, Minute, Second}
use Rattle.scan_core.proofs.DigitFacts.{digits_decimal}
use Rattle.scan_core.proofs.PaddedFacts.{length-padded}
use Rattle.scan_core.specs.Digits.{AreSomeDigits}
use Rattle.pg_interval_2.specs.inside.ClockSteps.{hours_text, field_text, fraction_text, clock_steps}
use Rattle.scan_core.specs.Number.{minus}
use Rattle.pg_interval_2.specs.inside.PartSteps.{years_of, months_of, hours_of, minutes_of, seconds_of, subsecond_of}
use Rattle.pg_interval_2.specs.Sql.{IsSignOr, IsYearMonth, IsDays, IsSqlTime, AreSqlWords, IsSql}
use Rattle.scan_core.specs.Number.{sign_text}
use Rattle.pg_interval_2.specs.inside.SqlSteps.{has_all_signs, year_month_text, signed_text, months_text, days_text, time_text, plain_text}
use Rattle.pg_interval_2.specs.inside.SqlSteps.{sql_steps}
use Rattle.pg_interval_2.proofs.ClockCounts.{micros_digits, uncut_micros, three_counts}
use Rattle.pg_interval_2.proofs.PostgresSpelled.{padded_field, fraction_is}
use Rattle.pg_interval_2.proofs.Spaces.{AreWords, words-join}
use Rattle.pg_interval_2.proofs.SqlSolid.{year_month_solid, days_solid, time_solid}
use Rattle.pg_interval_2.proofs.Widths.{length_decimal_micros}
use Rattle.pg_interval_2.proofs.WrittenNumbers.{cond_two}

-- ---- signs

any_sign : (negative : Bool) → IsSignOr false negative (sign_text negative)
any_sign true = inl refl
any_sign false = inl refl

minus_alone : (negative : Bool) → IsSignOr false negative (minus negative)
minus_alone true = inl refl
minus_alone false = inr (refl, refl)

pub governed : (negative : Bool) → IsSignOr negative negative []
governed true = inr (refl, refl)
governed false = inr (refl, refl)

-- ---- words

decimal_field : (n : ℕ) → n < 2 ^ 64 → AreSomeDigits (decimal n)
decimal_field n small = (decimal_nonempty n small, digits_decimal n small)

abbrev pub year_month_counts : Bool → ℤ → List Count
year_month_counts negative months = count_of negative (decimal (years_of months)) [] Year ∷ count_of negative
    (decimal (months_of months)) [] Month ∷ []

year_month_is : (negative : Bool) (sign : List ℕ) (months : ℤ) → IsSignOr false negative sign → unsigned_abs months ≤ 2 ^ 63
    → IsYearMonth (sign ++ year_month_text months) (year_month_counts negative months)
unfolding year_month_text
year_month_is negative sign months signed small = record {
  negative = negative;
  sign = sign;
  years = decimal (years_of months);
  months = decimal (months_of months);
  signed = signed;
  year_field = decimal_field (years_of months) (omega arith);
  month_field = decimal_field (months_of months) (omega arith);
  joined = refl;
  counted = refl;
}

abbrev pub day_counts : Bool → ℤ → List Count
day_counts negative days = count_of negative (decimal (unsigned_abs days)) [] Day ∷ []

days_are : (negative : Bool) (sign : List ℕ) (days : ℤ) → IsSignOr false negative sign → unsigned_abs days ≤ 2 ^ 63
    → IsDays negative (sign ++ decimal (unsigned_abs days)) (day_counts negative days)
days_are negative sign days signed small = record {
  sign = sign;
  days = decimal (unsigned_abs days);
  signed = signed;
  day_field = decimal_field (unsigned_abs days) (omega arith);
  joined = refl;
  counted = refl;
}

short_micros : (micros : ℕ) → micros < 1_000_000 → length (micros_digits micros) ≤ 6
short_micros micros below =
    cond_both (micros == 0) _ _ (λ (digits : List ℕ). length digits ≤ 6) (λ _. omega arith)
    (λ _. omega (arith, length-padded 6 micros, length_decimal_micros micros below))

time_is : (default negative : Bool) (sign : List ℕ) (micros : ℤ) → IsSignOr default negative sign → unsigned_abs micros ≤ 2 ^ 63
    → IsSqlTime default (sign ++ clock_steps 1 micros) (three_counts negative 1 micros)
unfolding clock_steps hours_text field_text
time_is default negative sign micros signed small = record {
  negative = negative;
  sign = sign;
  hours = padded_digits 1 (hours_of micros);
  minutes = padded_digits 2 (minutes_of micros);
  piece = codes ":" ++ (padded_digits 2 (seconds_of micros) ++ fraction_text (subsecond_of micros));
  second_counts = count_of negative (padded_digits 2 (seconds_of micros)) (micros_digits (subsecond_of micros)) Second ∷ [];
  signed = signed;
  hour_field = padded_field 1 (hours_of micros) (omega arith);
  minute_field = padded_field 2 (minutes_of micros) (omega arith);
  seconds = inr (record {
    seconds = padded_digits 2 (seconds_of micros);
    fraction = micros_digits (subsecond_of micros);
    tail = fraction_text (subsecond_of micros);
    second_field = padded_field 2 (seconds_of micros) (omega arith);
    point = fraction_is (subsecond_of micros) (omega arith);
    short = short_micros (subsecond_of micros) (omega arith);
    joined = refl;
    counted = refl;
  });
  joined = refl;
  counted = let whole = uncut_micros (subsecond_of micros) (omega arith) in
      ap (λ (fraction : List ℕ). count_of negative (padded_digits 1 (hours_of micros)) [] Hour ∷ count_of negative
      (padded_digits 2 (minutes_of micros)) [] Minute ∷ count_of negative (padded_digits 2 (seconds_of micros)) fraction Second ∷ []) whole;
}

-- ---- texts

-- words with one space between are read as these words
spelled_by : (all : List (List ℕ)) (counts : List Count) → AreWords all → AreSqlWords all counts → IsSql (join_with_byte 32 all) counts
spelled_by all counts solid are = inr (subst (λ (ws : List (List ℕ)). AreSqlWords ws counts) (sym (words-join all solid)) are)

signed_spelled : (months days micros : ℤ) → unsigned_abs months ≤ 2 ^ 63 → unsigned_abs days ≤ 2 ^ 63 → unsigned_abs micros ≤ 2 ^ 63
    → IsSql (signed_text months days micros)
    (year_month_counts (is_negative months) months ++ (day_counts (is_negative days) days ++ three_counts (is_negative micros) 1 micros))
unfolding signed_text
signed_spelled months days micros small_months small_days small_micros =
    let date = year_month_is (is_negative months) (sign_text (is_negative months)) months (any_sign (is_negative months)) small_months in
    let day = days_are (is_negative days) (sign_text (is_negative days)) days (any_sign (is_negative days)) small_days in
    let time = time_is false (is_negative micros) (sign_text (is_negative micros)) micros (any_sign (is_negative micros)) small_micros in
    let solid_date = year_month_solid _ _ date in
    let solid_day = days_solid _ _ _ day in
    let solid_time = time_solid _ _ _ time in
    spelled_by ((sign_text (is_negative months) ++ year_month_text months) ∷ (sign_text (is_negative days) ++ decimal (unsigned_abs days)) ∷
    (sign_text (is_negative micros) ++ clock_steps 1 micros) ∷ []) _
    (solid_date.0, solid_date.1, (solid_day.0, solid_day.1, (solid_time.0, solid_time.1, tt))) (
      is_negative days,
      year_month_counts (is_negative months) months,
      day_counts (is_negative days) days,
      three_counts (is_negative micros) 1 micros,
      date,
      day,
      time,
      refl,
    )

months_spelled : (months : ℤ) → unsigned_abs months ≤ 2 ^ 63 → IsSql (months_text months) (year_month_counts (is_negative months) months)
unfolding months_text
months_spelled months small =
    let date = year_month_is (is_negative months) (minus (is_negative months)) months (minus_alone (is_negative months)) small in
    let solid_date = year_month_solid _ _ date in
    spelled_by ((minus (is_negative months) ++ year_month_text months) ∷ []) _ (solid_date.0, solid_date.1, tt) (inl date)

days_spelled : (days micros : ℤ) → unsigned_abs days ≤ 2 ^ 63 → unsigned_abs micros ≤ 2 ^ 63
    → IsSql (days_text days micros) (day_counts (is_negative days) days ++ three_counts (is_negative days) 1 micros)
unfolding days_text
days_spelled days micros small_days small_micros =
    let day = days_are (is_negative days) (minus (is_negative days)) days (minus_alone (is_negative days)) small_days in
    let time = time_is (is_negative days) (is_negative days) [] micros (governed (is_negative days)) small_micros in
    let solid_day = days_solid _ _ _ day in
    let solid_time = time_solid _ _ _ time in
    spelled_by ((minus (is_negative days) ++ decimal (unsigned_abs days)) ∷ clock_steps 1 micros ∷ []) _
    (solid_day.0, solid_day.1, (solid_time.0, solid_time.1, tt))
    (is_negative days, day_counts (is_negative days) days, three_counts (is_negative days) 1 micros, day, time, refl)

time_spelled : (micros : ℤ) → unsigned_abs micros ≤ 2 ^ 63 → IsSql (time_text micros) (three_counts (is_negative micros) 1 micros)
unfolding time_text
time_spelled micros small =
    let time = time_is false (is_negative micros) (minus (is_negative micros)) micros (minus_alone (is_negative micros)) small in
    let solid_time = time_solid _ _ _ time in
    spelled_by ((minus (is_negative micros) ++ clock_steps 1 micros) ∷ []) _ (solid_time.0, solid_time.1, tt) (inr time)

-- the counts of the written text
abbrev pub plain_counts : ℤ → ℤ → ℤ → List Count
plain_counts months days micros =
    if not (int_eq months (pos 0)) then year_month_counts (is_negative months) months else if not (int_eq days (pos 0)) then
    (day_counts (is_negative days) days ++ three_counts (is_negative days) 1 micros) else three_counts (is_negative micros) 1 micros

abbrev pub sql_counts : ℤ → ℤ → ℤ → List Count
sql_counts months days micros =
    if int_eq months (pos 0) && (int_eq days (pos 0) && int_eq micros (pos 0)) then [] else if has_all_signs months days micros then
    (year_month_counts (is_negative months) months ++ (day_counts (is_negative days) days
    ++ three_counts (is_negative micros) 1 micros)) else plain_counts months days micros

plain_spelled : (months days micros : ℤ) → unsigned_abs months ≤ 2 ^ 63 → unsigned_abs days ≤ 2 ^ 63 → unsigned_abs micros ≤ 2 ^ 63
    → IsSql (plain_text months days micros) (plain_counts months days micros)
unfolding plain_text
plain_spelled months days micros small_months small_days small_micros =
    cond_two (not (int_eq months (pos 0))) IsSql _ _ _ _ (λ _. months_spelled months small_months) (λ _.
    cond_two (not (int_eq days (pos 0))) IsSql _ _ _ _ (λ _. days_spelled days micros small_days small_micros)
    (λ _. time_spelled micros small_micros))

-- the written text spells these counts
pub sql_spelled : (months days micros : ℤ) → unsigned_abs months ≤ 2 ^ 63 → unsigned_abs days ≤ 2 ^ 63 → unsigned_abs micros ≤ 2 ^ 63
    → IsSql (sql_steps months days micros) (sql_counts months days micros)
unfolding sql_steps
sql_spelled months days micros small_months small_days small_micros =
    cond_two (int_eq months (pos 0) && (int_eq days (pos 0) && int_eq micros (pos 0))) IsSql _ _ _ _ (λ _. inl (refl, refl)) (λ _.
    cond_two (has_all_signs months days micros) IsSql _ _ _ _ (λ _. signed_spelled months days micros small_months small_days small_micros)
    (λ _. plain_spelled months days micros small_months small_days small_micros))
