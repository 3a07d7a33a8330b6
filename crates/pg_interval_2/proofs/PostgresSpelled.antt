-- A text written in `postgres` style spells the counts of its interval.
use Rattle.std.proofs.Common.{◌≡◌, ℕ, ◌<◌, ◌≤◌, ◌^◌, Bool, true, false, not, ◌&&◌, ◌==◌, IsTrue, List, [], ◌∷◌, ◌++◌, codes, decimal}
use Rattle.std.proofs.Common.{filter, if◌then◌else◌, ℤ, pos, unsigned_abs, int_eq, Some, refl, sym, arith, inl, inr, append_assoc}
use Rattle.std.proofs.Common.{append-nil}
use Rattle.std.proofs.lemmas.Bool.{cond_both, and_parts}
use Rattle.std.proofs.lemmas.Fmt.{decimal_nonempty}
use Rattle.std.specs.Int.{is_negative}
use Rattle.scan_core.specs.Count.{Count, count_of}
use Rattle.scan_core.specs.Join.{IsJoin}
use Rattle.scan_core.specs.Number.{IsFraction}
use Rattle.scan_core.specs.Padded.{padded_digits}
use Rattle.scan_core.specs.declared.share.Unit.{Unit as TimeUnit}
use Rattle.scan_core.specs.declared.share.Unit.TheVariants.{Year, Month, Day}
use Rattle.scan_core.proofs.DigitFacts.{digits_decimal}
use Rattle.pg_interval_2.specs.Clock.{IsClock}
use Rattle.pg_interval_2.specs.inside.Reading.{is_nonzero}
use Rattle.scan_core.specs.Digits.{AreSomeDigits}
use Rattle.pg_interval_2.specs.inside.ClockSteps.{hours_text, field_text, fraction_text, clock_steps}
use Rattle.scan_core.specs.Number.{minus}
use Rattle.pg_interval_2.specs.inside.PartSteps.{years_of, months_of, hours_of, minutes_of, seconds_of, subsecond_of}
use Rattle.pg_interval_2.specs.Postgres.{IsNamed, IsItem, AreItems, all_counts}
use Rattle.pg_interval_2.specs.inside.PostgresParts.{IsPostgres}
use Rattle.pg_interval_2.specs.inside.UnitPlaces.{has_distinct_units}
use Rattle.pg_interval_2.specs.inside.PostgresSteps.{counted_name, number_words, named_words, clock_words, postgres_words, postgres_steps}
use Rattle.pg_interval_2.specs.UnitNames.{postgres_names}
use Rattle.pg_interval_2.specs.inside.NamedUnits.{unit_named}
use Rattle.pg_interval_2.proofs.UnitsApart.{named_contains, distinct_pairs}
use Rattle.pg_interval_2.proofs.ClockCounts.{micros_digits, three_counts}
use Rattle.scan_core.proofs.Joins.{IsJoin-append, IsJoin-one}
use Rattle.scan_core.proofs.PaddedFacts.{digits-padded, length-padded}
use Rattle.scan_core.proofs.Signs.{int_eq-zero}
use Rattle.pg_interval_2.proofs.PostgresWords.{AreWords-postgres_words}
use Rattle.pg_interval_2.proofs.Spaces.{words-join}
use Rattle.pg_interval_2.proofs.UnitOrder.{RisesFrom, rises_lower, rises_front, rises_filter, distinct_units}
use Rattle.pg_interval_2.proofs.WrittenCounts.{part_counts, date_counts}
use Rattle.pg_interval_2.proofs.WrittenNumbers.{cond_two, IsSign-minus, IsNumber-whole}

-- ---- a number and its name

-- the name that stands behind a number names the unit, singular or not
pub counted_unit : (names : TimeUnit → List (List ℕ)) (negative : Bool) (n : ℕ) (name : List ℕ) (unit : TimeUnit)
    → unit_named names name ≡ Some unit → unit_named names (name ++ codes "s") ≡ Some unit
    → unit_named names (counted_name negative n name) ≡ Some unit
unfolding counted_name
counted_unit names negative n name unit one more = cond_both (not negative && n == 1) _ _ (λ word. unit_named names word ≡ Some unit)
    (λ _. one) (λ _. more)

named : (names : TimeUnit → List (List ℕ)) (negative : Bool) (n : ℕ) (word : List ℕ) (unit : TimeUnit) → n < 2 ^ 64
    → unit_named names word ≡ Some unit
    → IsNamed names ((minus negative ++ decimal n) ∷ word ∷ []) (count_of negative (decimal n) [] unit)
named names negative n word unit small is = record {
  number = minus negative ++ decimal n;
  name = word;
  digits = rw append-nil at (IsNumber-whole true negative (decimal n) (digits_decimal n small) (decimal_nonempty n small));
  unit = named_contains names word unit is;
  spelled = inl refl;
}

-- the items of a part: one, or none where it is 0
abbrev pub part_items : Bool → ℕ → TimeUnit → List (List Count)
part_items negative n unit = if n == 0 then [] else ((count_of negative (decimal n) [] unit ∷ []) ∷ [])

pub number_join : (names : TimeUnit → List (List ℕ)) (negative : Bool) (n : ℕ) (word : List ℕ) (unit : TimeUnit) → n < 2 ^ 64
    → unit_named names word ≡ Some unit
    → IsJoin (IsItem names) (number_words negative n word) (part_items negative n unit)
unfolding number_words
number_join names negative n word unit small is =
    cond_two (n == 0) (IsJoin (IsItem names)) _ _ _ _ (λ _. refl)
    (λ _. IsJoin-one (IsItem names) _ _ (inl (count_of negative (decimal n) [] unit, named names negative n word unit small is, refl)))

part_join : (negative : Bool) (n : ℕ) (name : List ℕ) (unit : TimeUnit) → n < 2 ^ 64 → unit_named postgres_names name ≡ Some unit
    → unit_named postgres_names (name ++ codes "s") ≡ Some unit
    → IsJoin (IsItem postgres_names) (named_words negative n name) (part_items negative n unit)
part_join negative n name unit small one more =
    number_join postgres_names negative n (counted_name negative n name) unit small
    (counted_unit postgres_names negative n name unit one more)

pub all_counts-part : (negative : Bool) (n : ℕ) (unit : TimeUnit) → all_counts (part_items negative n unit) ≡ part_counts negative n unit
all_counts-part negative n unit =
    cond_two (n == 0) (λ (items : List (List Count)) (counts : List Count). all_counts items ≡ counts) _ _ _ _ (λ _. refl) (λ _. refl)

pub all_counts-append : (xs ys : List (List Count)) → all_counts (xs ++ ys) ≡ all_counts xs ++ all_counts ys
all_counts-append [] ys = refl
all_counts-append (x ∷ xs) ys = rw (all_counts-append xs ys) (sym (append_assoc x (all_counts xs) (all_counts ys)))

year_names : (unit_named postgres_names (codes "year") ≡ Some Year) × (unit_named postgres_names (codes "year" ++ codes "s") ≡ Some Year)
unfolding unit_named
year_names = (refl, refl)

month_names : (unit_named postgres_names (codes "mon") ≡ Some Month) × (unit_named postgres_names (codes "mon" ++ codes "s") ≡ Some Month)
unfolding unit_named
month_names = (refl, refl)

day_names : (unit_named postgres_names (codes "day") ≡ Some Day) × (unit_named postgres_names (codes "day" ++ codes "s") ≡ Some Day)
unfolding unit_named
day_names = (refl, refl)

-- ---- a clock

pub padded_field : (width n : ℕ) → n < 2 ^ 64 → AreSomeDigits (padded_digits width n)
padded_field width n small = (omega (arith, length-padded width n, decimal_nonempty n small), digits-padded width n small)

pub fraction_is : (micros : ℕ) → micros < 2 ^ 64 → IsFraction (micros_digits micros) (fraction_text micros)
unfolding fraction_text
fraction_is micros small = cond_two (micros == 0) IsFraction _ _ _ _ (λ _. inl (refl, refl)) (λ _. inr (digits-padded 6 micros small, refl))

clock_is : (micros : ℤ) → unsigned_abs micros ≤ 2 ^ 63
    → IsClock (minus (is_negative micros) ++ clock_steps 2 micros) (filter is_nonzero (three_counts (is_negative micros) 2 micros))
unfolding clock_steps hours_text field_text
clock_is micros small = record {
  negative = is_negative micros;
  sign = minus (is_negative micros);
  hours = padded_digits 2 (hours_of micros);
  minutes = padded_digits 2 (minutes_of micros);
  seconds = padded_digits 2 (seconds_of micros);
  fraction = micros_digits (subsecond_of micros);
  tail = fraction_text (subsecond_of micros);
  signed = IsSign-minus true (is_negative micros);
  hour_field = padded_field 2 (hours_of micros) (omega arith);
  minute_field = padded_field 2 (minutes_of micros) (omega arith);
  second_field = padded_field 2 (seconds_of micros) (omega arith);
  point = fraction_is (subsecond_of micros) (omega arith);
  joined = refl;
  counted = refl;
}

abbrev clock_items : ℤ → List (List Count)
clock_items micros = if int_eq micros (pos 0) then [] else (filter is_nonzero (three_counts (is_negative micros) 2 micros) ∷ [])

-- the counts of the written time, none where it is 0
abbrev pub clock_part : ℤ → List Count
clock_part micros = if int_eq micros (pos 0) then [] else filter is_nonzero (three_counts (is_negative micros) 2 micros)

clock_join : (micros : ℤ) → unsigned_abs micros ≤ 2 ^ 63 → IsJoin (IsItem postgres_names) (clock_words micros) (clock_items micros)
unfolding clock_words
clock_join micros small =
    cond_two (int_eq micros (pos 0)) (IsJoin (IsItem postgres_names)) _ _ _ _ (λ _. refl)
    (λ _. IsJoin-one (IsItem postgres_names) _ _ (inr (minus (is_negative micros) ++ clock_steps 2 micros, clock_is micros small, refl)))

all_counts-clock : (micros : ℤ) → all_counts (clock_items micros) ≡ clock_part micros
all_counts-clock micros =
    cond_two (int_eq micros (pos 0)) (λ (items : List (List Count)) (counts : List Count). all_counts items ≡ counts) _ _ _ _ (λ _. refl)
    (λ _. append-nil _)

-- ---- the whole text

-- the counts of the written text
abbrev pub postgres_counts : ℤ → ℤ → ℤ → List Count
postgres_counts months days micros = date_counts months days ++ clock_part micros

rises_clock : (micros : ℤ) → RisesFrom 4 (clock_part micros)
rises_clock micros =
    cond_both (int_eq micros (pos 0)) _ _ (RisesFrom 4) (λ _. tt)
    (λ _. rises_filter is_nonzero 4 (three_counts (is_negative micros) 2 micros) (omega arith, (omega arith, (omega arith, tt))))

distinct : (months days micros : ℤ) → IsTrue (has_distinct_units (postgres_counts months days micros))
distinct months days micros =
    distinct_units 0 (postgres_counts months days micros)
    (rw (append_assoc, append_assoc) (rises_front (years_of months == 0) _ _
    (rises_front (months_of months == 0) _ _ (rises_lower _ _ _ (omega arith)
    (rises_front (unsigned_abs days == 0) _ _ (rises_clock micros))))))

-- the counts of four runs of items
counts_of_four : (a b c d : List (List Count)) (x y z w : List Count) → all_counts a ≡ x → all_counts b ≡ y → all_counts c ≡ z
    → all_counts d ≡ w
    → (x ++ (y ++ z)) ++ w ≡ all_counts (a ++ (b ++ (c ++ d)))
counts_of_four a b c d x y z w is_a is_b is_c is_d =
    rw (all_counts-append a (b ++ (c ++ d)), all_counts-append b (c ++ d), all_counts-append c d, is_a, is_b, is_c, is_d)
    (simp append_assoc)

nonzero_items : (months days micros : ℤ) → unsigned_abs months ≤ 2 ^ 63 → unsigned_abs days ≤ 2 ^ 63 → unsigned_abs micros ≤ 2 ^ 63
    → AreItems postgres_names (postgres_words months days micros) (postgres_counts months days micros)
nonzero_items months days micros small_months small_days small_micros = (
  part_items (is_negative months) (years_of months) Year ++ (part_items (is_negative months) (months_of months) Month
      ++ (part_items (is_negative days) (unsigned_abs days) Day ++ clock_items micros)),
  IsJoin-append _ _ _ _ _ (part_join (is_negative months) (years_of months) (codes "year") Year (omega arith) year_names.0 year_names.1)
      (IsJoin-append _ _ _ _ _ (part_join (is_negative months) (months_of months) (codes "mon") Month
      (omega arith) month_names.0 month_names.1)
      (IsJoin-append _ _ _ _ _ (part_join (is_negative days) (unsigned_abs days) (codes "day") Day (omega arith) day_names.0 day_names.1)
      (clock_join micros small_micros))),
  counts_of_four (part_items (is_negative months) (years_of months) Year) (part_items (is_negative months) (months_of months) Month)
      (part_items (is_negative days) (unsigned_abs days) Day) (clock_items micros) _ _ _ _
      (all_counts-part (is_negative months) (years_of months) Year) (all_counts-part (is_negative months) (months_of months) Month)
      (all_counts-part (is_negative days) (unsigned_abs days) Day) (all_counts-clock micros),
  distinct_pairs _ (distinct months days micros),
)

-- zero is a clock whose fields are 0, which has no counts
zero_clock : IsClock (codes "00:00:00") []
zero_clock = record {
  negative = false;
  sign = [];
  hours = codes "00";
  minutes = codes "00";
  seconds = codes "00";
  fraction = [];
  tail = [];
  signed = inl refl;
  hour_field = (omega arith, (omega arith, (omega arith, tt)));
  minute_field = (omega arith, (omega arith, (omega arith, tt)));
  second_field = (omega arith, (omega arith, (omega arith, tt)));
  point = inl (refl, refl);
  joined = refl;
  counted = refl;
}

zero_items : AreItems postgres_names (codes "00:00:00" ∷ []) []
zero_items = (
  [] ∷ [],
  IsJoin-one (IsItem postgres_names) (codes "00:00:00" ∷ []) [] (inr (codes "00:00:00", zero_clock, refl)),
  refl,
  distinct_pairs [] refl,
)

zero_spelled : (months days micros : ℤ) → int_eq months (pos 0) && (int_eq days (pos 0) && int_eq micros (pos 0)) ≡ true
    → IsPostgres (codes "00:00:00") (postgres_counts months days micros)
zero_spelled months days micros zero_is =
    let outer = and_parts _ _ zero_is in
    let inner = and_parts _ _ outer.1 in
    let no_months : months ≡ pos 0 = int_eq-zero months outer.0 in
    let no_days : days ≡ pos 0 = int_eq-zero days inner.0 in
    let no_micros : micros ≡ pos 0 = int_eq-zero micros inner.1 in
    rw (no_months, no_days, no_micros) zero_items

-- the written text spells these counts
pub postgres_spelled : (months days micros : ℤ) → unsigned_abs months ≤ 2 ^ 63 → unsigned_abs days ≤ 2 ^ 63 → unsigned_abs micros ≤ 2 ^ 63
    → IsPostgres (postgres_steps months days micros) (postgres_counts months days micros)
unfolding postgres_steps
postgres_spelled months days micros small_months small_days small_micros =
    cond_both _ _ _ (λ text. IsPostgres text (postgres_counts months days micros)) (zero_spelled months days micros)
    (λ _. rw (words-join (postgres_words months days micros) (AreWords-postgres_words months days micros small_months small_days
    small_micros)) (nonzero_items months days micros small_months small_days small_micros))
