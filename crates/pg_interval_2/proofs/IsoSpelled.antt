-- A text written in ISO style spells the counts of its interval, in the order of the strict style.
use Rattle.std.proofs.Common.{◌≡◌, ◌≢◌, ℕ, ◌+◌, ◌<◌, ◌≤◌, ◌^◌, Bool, true, false, ◌&&◌, List, [], ◌∷◌, ◌++◌, length, length-append, codes}
use Rattle.std.proofs.Common.{decimal, if◌then◌else◌, ◌==◌, ℤ, pos, unsigned_abs, Option, Some, refl, ap, sym, arith, inl, inr}
use Rattle.std.proofs.Common.{append_assoc, append-nil, eqb-true, int_eq, true≢false, ⊎_elim, ◌∙◌}
use Rattle.std.proofs.lemmas.Bool.{cond_both, cond-true, cond-false, cases_Bool}
use Rattle.std.proofs.lemmas.Fmt.{decimal_nonempty}
use Rattle.std.specs.Int.{is_negative}
use Rattle.scan_core.specs.Count.{Count}
use Rattle.scan_core.specs.Digits.{AreDigits}
use Rattle.scan_core.specs.Padded.{padded_digits}
use Rattle.scan_core.specs.declared.share.Unit.{Unit as TimeUnit}
use Rattle.scan_core.specs.declared.share.Unit.TheVariants.{Year, Month, Week, Day, Hour, Minute, Second}
use Rattle.scan_core.proofs.DigitFacts.{digits_decimal}
use Rattle.pg_interval_2.specs.Iso.{IsPair}
use Rattle.pg_interval_2.specs.inside.IsoShapes.{ArePairs, date_unit, time_unit}
use Rattle.pg_interval_2.specs.IsoStrict.{AreInOrder}
use Rattle.pg_interval_2.specs.inside.UnitsInOrder.{units_in_order}
use Rattle.pg_interval_2.specs.inside.IsoShapes.{IsStrictEither}
use Rattle.pg_interval_2.specs.IsoText.{iso_part}
use Rattle.pg_interval_2.specs.inside.IsoSteps.{nonzero_digits, iso_decimal, iso_seconds, iso_date, iso_time, iso_steps}
use Rattle.scan_core.specs.Number.{minus}
use Rattle.pg_interval_2.specs.inside.PartSteps.{years_of, months_of, hours_of, minutes_of, seconds_of, subsecond_of}
use Rattle.scan_core.proofs.Joins.{IsJoin-append, IsJoin-one}
use Rattle.scan_core.proofs.PaddedFacts.{digits-padded, length-padded}
use Rattle.pg_interval_2.proofs.WrittenNumbers.{cond_two, IsNumber-whole, IsNumber-point}
use Rattle.scan_core.proofs.Signs.{int_eq-zero, abs_zero}
use Rattle.pg_interval_2.proofs.WrittenCounts.{part_counts, seconds_counts, zero_count, date_counts, time_counts, time_parts}

-- a part that isn't 0
whole_pair : (unit_of : ℕ → Option TimeUnit) (negative : Bool) (n letter : ℕ) (unit : TimeUnit) → n < 2 ^ 64 → unit_of letter ≡ Some unit
    → IsPair unit_of (minus negative ++ (decimal n ++ letter ∷ []))
    (record { negative = negative; whole = decimal n; fraction = []; unit = unit })
whole_pair unit_of negative n letter unit small means = record {
  number = minus negative ++ (decimal n ++ []);
  letter = letter;
  digits = IsNumber-whole false negative (decimal n) (digits_decimal n small) (decimal_nonempty n small);
  unit = means;
  joined = simp (append_assoc, append-nil);
}

part_spelled : (unit_of : ℕ → Option TimeUnit) (negative : Bool) (n letter : ℕ) (unit : TimeUnit) → n < 2 ^ 64 → unit_of letter ≡ Some unit
    → ArePairs unit_of (iso_part negative n (letter ∷ [])) (part_counts negative n unit)
unfolding iso_part
part_spelled unit_of negative n letter unit small means =
    cond_two (n == 0) (ArePairs unit_of) _ _ _ _ (λ _. refl) (λ _. IsJoin-one (IsPair unit_of) _ _
    (whole_pair unit_of negative n letter unit small means))

whole_digits : (n : ℕ) → n < 2 ^ 64 → AreDigits (nonzero_digits n)
unfolding nonzero_digits
whole_digits n small = cond_both (n == 0) _ _ AreDigits (λ _. tt) (λ _. digits_decimal n small)

-- seconds with microseconds that aren't 0
point_pair : (negative : Bool) (seconds micros : ℕ) → seconds < 2 ^ 64 → micros < 1_000_000
    → IsPair time_unit (iso_decimal negative seconds micros)
    (record { negative = negative; whole = nonzero_digits seconds; fraction = padded_digits 6 micros; unit = Second })
unfolding iso_decimal
point_pair negative seconds micros small below = record {
  number = minus negative ++ (nonzero_digits seconds ++ (codes "." ++ padded_digits 6 micros));
  letter = 83;
  digits = IsNumber-point false negative _ (padded_digits 6 micros) (whole_digits seconds small) (digits-padded 6 micros (omega arith))
      (omega (arith, length-padded 6 micros));
  unit = refl;
  joined = simp append_assoc;
}

seconds_spelled : (negative : Bool) (seconds micros : ℕ) → seconds < 2 ^ 64 → micros < 1_000_000
    → ArePairs time_unit (iso_seconds negative seconds micros) (seconds_counts negative seconds micros)
unfolding iso_seconds
seconds_spelled negative seconds micros small below =
    cond_two (micros == 0) (ArePairs time_unit) _ _ _ _ (λ _. part_spelled time_unit negative seconds 83 Second small refl)
    (λ _. IsJoin-one (IsPair time_unit) _ _ (point_pair negative seconds micros small below))

date_spelled : (months days : ℤ) → unsigned_abs months ≤ 2 ^ 63 → unsigned_abs days ≤ 2 ^ 63
    → ArePairs date_unit (iso_date months days) (date_counts months days)
unfolding iso_date
date_spelled months days small_months small_days =
    IsJoin-append _ _ _ _ _ (part_spelled date_unit (is_negative months) (years_of months) 89 Year (omega arith) refl)
    (IsJoin-append _ _ _ _ _ (part_spelled date_unit (is_negative months) (months_of months) 77 Month (omega arith) refl)
    (part_spelled date_unit (is_negative days) (unsigned_abs days) 68 Day (omega arith) refl))

-- the hours, minutes and seconds behind the `T`
abbrev time_body : ℤ → List ℕ
time_body micros =
    iso_part (is_negative micros) (hours_of micros) (codes "H")
    ++ (iso_part (is_negative micros) (minutes_of micros) (codes "M")
    ++ iso_seconds (is_negative micros) (seconds_of micros) (subsecond_of micros))

time_spelled : (micros : ℤ) → unsigned_abs micros ≤ 2 ^ 63 → ArePairs time_unit (time_body micros) (time_counts micros)
time_spelled micros small =
    IsJoin-append _ _ _ _ _ (part_spelled time_unit (is_negative micros) (hours_of micros) 72 Hour (omega arith) refl)
    (IsJoin-append _ _ _ _ _ (part_spelled time_unit (is_negative micros) (minutes_of micros) 77 Minute (omega arith) refl)
    (seconds_spelled (is_negative micros) (seconds_of micros) (subsecond_of micros) (omega arith) (omega arith)))

-- ---- their order

none_of : (unit : TimeUnit) (units : List TimeUnit) (counts : List Count) → AreInOrder units counts → AreInOrder (unit ∷ units) counts
none_of unit units [] h = tt
none_of unit units (c ∷ cs) h = inr h

part_order : (negative : Bool) (n : ℕ) (unit : TimeUnit) (units : List TimeUnit) (counts : List Count) → AreInOrder units counts
    → AreInOrder (unit ∷ units) (part_counts negative n unit ++ counts)
part_order negative n unit units counts h = cond_both (n == 0) _ _ (λ (part : List Count). AreInOrder (unit ∷ units) (part ++ counts))
    (λ _. none_of unit units counts h) (λ _. inl (refl, h))

last_order : (negative : Bool) (n : ℕ) (unit : TimeUnit) → AreInOrder (unit ∷ []) (part_counts negative n unit)
last_order negative n unit = cond_both (n == 0) _ _ (AreInOrder (unit ∷ [])) (λ _. tt) (λ _. inl (refl, tt))

date_order : (months days : ℤ) → AreInOrder (units_in_order false) (date_counts months days)
date_order months days =
    part_order (is_negative months) (years_of months) Year (Month ∷ Week ∷ Day ∷ []) _
    (part_order (is_negative months) (months_of months) Month (Week ∷ Day ∷ []) _
    (none_of Week (Day ∷ []) _ (last_order (is_negative days) (unsigned_abs days) Day)))

time_order : (micros : ℤ) → AreInOrder (units_in_order true) (time_counts micros)
time_order micros =
    part_order (is_negative micros) (hours_of micros) Hour (Minute ∷ Second ∷ []) _
    (part_order (is_negative micros) (minutes_of micros) Minute (Second ∷ []) _
    (cond_both (subsecond_of micros == 0) _ _ (AreInOrder (Second ∷ [])) (λ _. last_order (is_negative micros) (seconds_of micros) Second)
    (λ _. inl (refl, tt))))

-- the counts that the written text spells
abbrev pub iso_counts : ℤ → ℤ → ℤ → List Count
iso_counts months days micros =
    if int_eq months (pos 0) && (int_eq days (pos 0) && int_eq micros (pos 0)) then (zero_count ∷ []) else
    (date_counts months days ++ time_counts micros)

zero_pair : IsPair time_unit (codes "0S") zero_count
zero_pair = record {
  number = codes "0";
  letter = 83;
  digits = IsNumber-whole false false (codes "0") (omega arith, tt) (omega arith);
  unit = refl;
  joined = refl;
}

zero_spelled : IsStrictEither (codes "PT0S") (zero_count ∷ [])
zero_spelled = inr (
  record {
    date = [];
    time = codes "0S";
    date_counts = [];
    time_counts = zero_count ∷ [];
    dates = refl;
    times = IsJoin-one (IsPair time_unit) (codes "0S") zero_count zero_pair;
    spelled = refl;
    counted = refl;
  },
  tt,
  inr (inr (inl (refl, tt))),
  λ empty. cc,
)

-- a part that isn't written is 0
no_part : (negative : Bool) (n letter : ℕ) → length (iso_part negative n (letter ∷ [])) ≡ 0 → n ≡ 0
unfolding iso_part
no_part negative n letter =
    cond_both (n == 0) _ _ (λ (text : List ℕ). length text ≡ 0 → n ≡ 0) (λ zero_is _. eqb-true n 0 zero_is)
    (λ _ none. absurd (omega (arith, length-append (minus negative) (decimal n ++ letter ∷ []), length-append (decimal n) (letter ∷ []))))

-- a date that isn't written is 0
no_date : (months days : ℤ) → length (iso_date months days) ≡ 0 → (months ≡ pos 0) × (days ≡ pos 0)
unfolding iso_date
no_date months days none =
    let years = iso_part (is_negative months) (years_of months) (codes "Y") in
    let months_left = iso_part (is_negative months) (months_of months) (codes "M") in
    let days_all = iso_part (is_negative days) (unsigned_abs days) (codes "D") in
    let outer : length (years ++ (months_left ++ days_all)) ≡ length years
    + length (months_left ++ days_all) = length-append years (months_left ++ days_all) in
    let inner : length (months_left ++ days_all) ≡ length months_left + length days_all = length-append months_left days_all in
    let no_years : years_of months ≡ 0 = no_part (is_negative months) (years_of months) 89 (omega arith) in
    let no_months : months_of months ≡ 0 = no_part (is_negative months) (months_of months) 77 (omega arith) in
    (abs_zero months (omega arith), abs_zero days (no_part (is_negative days) (unsigned_abs days) 68 (omega arith)))

-- seconds that aren't written are 0
no_seconds : (negative : Bool) (seconds micros : ℕ) → length (iso_seconds negative seconds micros) ≡ 0 → (seconds ≡ 0) × (micros ≡ 0)
unfolding iso_seconds iso_decimal
no_seconds negative seconds micros =
    cond_both (micros == 0) _ _ (λ (text : List ℕ). length text ≡ 0 → (seconds ≡ 0) × (micros ≡ 0))
    (λ zero_is none. (no_part negative seconds 83 none, eqb-true micros 0 zero_is))
    (λ _ none. absurd (omega (
      arith,
      length-append (minus negative)
          (nonzero_digits seconds ++ (codes "." ++ (padded_digits 6 micros ++ codes "S"))),
      length-append (nonzero_digits seconds) (codes "." ++ (padded_digits 6 micros ++ codes "S")),
    )))

-- a time that isn't written is 0
no_body : (micros : ℤ) → length (time_body micros) ≡ 0 → micros ≡ pos 0
no_body micros none =
    let hours = iso_part (is_negative micros) (hours_of micros) (codes "H") in
    let minutes = iso_part (is_negative micros) (minutes_of micros) (codes "M") in
    let seconds = iso_seconds (is_negative micros) (seconds_of micros) (subsecond_of micros) in
    let outer : length (hours ++ (minutes ++ seconds)) ≡ length hours
    + length (minutes ++ seconds) = length-append hours (minutes ++ seconds) in
    let inner : length (minutes ++ seconds) ≡ length minutes + length seconds = length-append minutes seconds in
    let no_hours : hours_of micros ≡ 0 = no_part (is_negative micros) (hours_of micros) 72 (omega arith) in
    let no_minutes : minutes_of micros ≡ 0 = no_part (is_negative micros) (minutes_of micros) 77 (omega arith) in
    let none_left = no_seconds (is_negative micros) (seconds_of micros) (subsecond_of micros) (omega arith) in
    abs_zero micros (omega (arith, no_hours, no_minutes, none_left.0, none_left.1, time_parts micros))

-- no time is written of no microseconds, and it has no counts
no_time : (micros : ℤ) → int_eq micros (pos 0) ≡ true → (iso_time micros ≡ []) × (time_counts micros ≡ [])
unfolding iso_time
no_time micros zero_is =
    let zero : micros ≡ pos 0 = int_eq-zero micros zero_is in
    (cond-true _ _ _ zero_is, rw zero refl)

some_time : (micros : ℤ) → int_eq micros (pos 0) ≡ false → iso_time micros ≡ codes "T" ++ time_body micros
unfolding iso_time
some_time micros zero_is = cond-false _ _ _ zero_is

-- a date without a time
date_alone : (months days micros : ℤ) → unsigned_abs months ≤ 2 ^ 63 → unsigned_abs days ≤ 2 ^ 63 → int_eq micros (pos 0) ≡ true
    → int_eq months (pos 0) && (int_eq days (pos 0) && int_eq micros (pos 0)) ≡ false
    → IsStrictEither (codes "P" ++ (iso_date months days ++ iso_time micros)) (date_counts months days ++ time_counts micros)
date_alone months days micros small_months small_days no_micros some =
    let none = no_time micros no_micros in
    rw (none.0, none.1, append-nil (iso_date months days), append-nil (date_counts months days))
    (inl ((iso_date months days, date_spelled months days small_months small_days, written, refl), date_order months days))
  where
    written : iso_date months days ≢ []
    written empty =
        let zero = no_date months days (ap length empty) in
        true≢false (sym (rw (zero.0, zero.1) no_micros) ∙ some)

-- a date, perhaps empty, and a time
date_and_time : (months days micros : ℤ) → unsigned_abs months ≤ 2 ^ 63 → unsigned_abs days ≤ 2 ^ 63 → unsigned_abs micros ≤ 2 ^ 63
    → int_eq micros (pos 0) ≡ false
    → IsStrictEither (codes "P" ++ (iso_date months days ++ iso_time micros)) (date_counts months days ++ time_counts micros)
date_and_time months days micros small_months small_days small_micros some =
    rw (some_time micros some)
    (inr (
      record {
        date = iso_date months days;
        time = time_body micros;
        date_counts = date_counts months days;
        time_counts = time_counts micros;
        dates = date_spelled months days small_months small_days;
        times = time_spelled micros small_micros;
        spelled = refl;
        counted = refl;
      },
      date_order months days,
      time_order micros,
      written,
    ))
  where
    written : time_body micros ≢ []
    written empty =
        let zero = no_body micros (ap length empty) in
        let is_zero : int_eq micros (pos 0) ≡ true = rw zero refl in
        true≢false (sym is_zero ∙ some)

-- the written text spells these counts
pub iso_spelled : (months days micros : ℤ) → unsigned_abs months ≤ 2 ^ 63 → unsigned_abs days ≤ 2 ^ 63 → unsigned_abs micros ≤ 2 ^ 63
    → IsStrictEither (iso_steps months days micros) (iso_counts months days micros)
unfolding iso_steps
iso_spelled months days micros small_months small_days small_micros =
    cond_two _ IsStrictEither _ _ _ _ (λ _. zero_spelled)
    (λ some. ⊎_elim (λ none. date_alone months days micros small_months small_days none some)
    (λ time. date_and_time months days micros small_months small_days small_micros time) (cases_Bool (int_eq micros (pos 0))))
