-- The written text of a duration in range is in the grammar, with this value.
use Rattle.std.proofs.Common.{◌≡◌, ◌≢◌, ℕ, ◌<◌, ◌≤◌, ◌^◌, ◌==◌, ◌&&◌, Bool, true, false, cond, List, [], ◌∷◌, ◌++◌, length, codes, decimal}
use Rattle.std.proofs.Common.{refl, sym, ◌∙◌, ap, subst, length-append, arith, inl, inr}
use Rattle.std.proofs.lemmas.Bool.{eqb-true, and_parts}
use Rattle.std.proofs.lemmas.Bool.Decides.{nat_tests}
use Rattle.std.proofs.lemmas.Fmt.{decimal_nonempty}
use Rattle.scan_core.specs.Padded.{padded_digits}
use Rattle.scan_core.proofs.DigitFacts.{digits_decimal, number_of-decimal}
use Rattle.iso8601.specs.Fields.{IsOrZero}
use Rattle.iso8601.specs.Durations.{IsNumberOf32Bits, IsCount, IsCounted, IsDuration}
use Rattle.iso8601.specs.inside.GrammarParts.{IsSeconds, IsPerhapsClock}
use Rattle.iso8601.specs.Ranges.{IsDurationInRange}
use Rattle.iso8601.specs.WrittenDurations.{count_text, second_text, duration_text}
use Rattle.iso8601.specs.inside.DurationParts.{are_zero, clock_counts_text, date_counts_text}
use Rattle.iso8601.specs.declared.types.Duration.{Duration}
use Rattle.iso8601.specs.declared.types.Duration.TheVariants.{YMDHMS, Weeks}
use Rattle.iso8601.proofs.FieldFacts.{joins_three}
use Rattle.iso8601.proofs.SpelledFields.{fraction_spelled}

-- ---- counts

number_spelled : (n : ℕ) → n < 2 ^ 32 → IsNumberOf32Bits (decimal n) n
number_spelled n small =
    let fits : n < 2 ^ 64 = omega arith in
    record { some = decimal_nonempty n fits; all_digits = digits_decimal n fits; number = sym (number_of-decimal n fits); fits = small }

whole_count : (unit : List ℕ) (n : ℕ) → n < 2 ^ 32 → IsCount unit (decimal n ++ unit) n
whole_count unit n small = record { digits = decimal n; number = number_spelled n small; joined = refl }

count_if : (unit : List ℕ) (n : ℕ) (t : Bool) → (n == 0) ≡ t → n < 2 ^ 32 → IsOrZero (IsCount unit) (cond t [] (decimal n ++ unit)) n
count_if unit n true h small = inl (refl, eqb-true n 0 h)
count_if unit n false h small = inr (whole_count unit n small)

count_spelled : (unit : List ℕ) (n : ℕ) → n < 2 ^ 32 → IsOrZero (IsCount unit) (count_text n unit) n
unfolding count_text
count_spelled unit n small = count_if unit n (n == 0) refl small

seconds_if : (s ms : ℕ) (t : Bool) → (ms == 0) ≡ t → s < 2 ^ 32 → ms ≤ 999
    → IsSeconds (cond t (count_text s (codes "S")) (decimal s ++ (codes "." ++ (padded_digits 3 ms ++ codes "S")))) (s, ms)
seconds_if s ms true h small most = inl (count_spelled (codes "S") s small, eqb-true ms 0 h)
seconds_if s ms false h small most =
    inr (record {
      digits = decimal s;
      fraction = codes "." ++ padded_digits 3 ms;
      number = number_spelled s small;
      millis = fraction_spelled ms most;
      joined = refl;
    })

seconds_spelled : (s ms : ℕ) → s < 2 ^ 32 → ms ≤ 999 → IsSeconds (second_text s ms) (s, ms)
unfolding second_text
seconds_spelled s ms small most = seconds_if s ms (ms == 0) refl small most

-- ---- the clock

all_zero : (h m s ms : ℕ) → are_zero h m s ms ≡ true → (h ≡ 0) × (m ≡ 0) × (s ≡ 0) × (ms ≡ 0)
all_zero h m s ms z = grind (arith, nat_tests)

zeros : (h m s ms : ℕ) → (h ≡ 0) × (m ≡ 0) × (s ≡ 0) × (ms ≡ 0) → let clock : ℕ × (ℕ × (ℕ × ℕ)) = (h, (m, (s, ms))) in
    clock ≡ (0, (0, (0, 0)))
zeros h m s ms z = rw (z.0, z.1, z.2, z.3) refl

clock_if : (h m s ms : ℕ) (t : Bool) → are_zero h m s ms ≡ t → h < 2 ^ 32 → m < 2 ^ 32 → s < 2 ^ 32 → ms ≤ 999
    → IsPerhapsClock (cond t [] (codes "T" ++ (count_text h (codes "H") ++ (count_text m (codes "M") ++ second_text s ms))))
    (h, (m, (s, ms)))
clock_if h m s ms true z p q r o = inl (refl, zeros h m s ms (all_zero h m s ms z))
clock_if h m s ms false z p q r o =
    inr (record {
      hour_text = count_text h (codes "H");
      minute_text = count_text m (codes "M");
      second_text = second_text s ms;
      hours = count_spelled (codes "H") h p;
      minutes = count_spelled (codes "M") m q;
      seconds = seconds_spelled s ms r o;
      joined = refl;
    })

clock_spelled : (h m s ms : ℕ) → h < 2 ^ 32 → m < 2 ^ 32 → s < 2 ^ 32 → ms ≤ 999
    → IsPerhapsClock (clock_counts_text h m s ms) (h, (m, (s, ms)))
unfolding clock_counts_text
clock_spelled h m s ms p q r o = clock_if h m s ms (are_zero h m s ms) refl p q r o

-- ---- where a count isn't 0, something is written

empty_if : (t : Bool) (digits unit : List ℕ) → length unit ≡ 1 → length (cond t [] (digits ++ unit)) ≡ 0 → t ≡ true
empty_if true digits unit one none = refl
empty_if false digits unit one none = absurd (omega (arith, length-append digits unit))

no_count : (n : ℕ) (unit : List ℕ) → length unit ≡ 1 → length (count_text n unit) ≡ 0 → (n == 0) ≡ true
unfolding count_text
no_count n unit one none = empty_if (n == 0) (decimal n) unit one none

empty_clock : (t : Bool) (more : List ℕ) → length (cond t [] (codes "T" ++ more)) ≡ 0 → t ≡ true
empty_clock true more none = refl
empty_clock false more none = absurd (omega (arith, length-append (codes "T") more))

no_clock : (h m s ms : ℕ) → length (clock_counts_text h m s ms) ≡ 0 → are_zero h m s ms ≡ true
unfolding clock_counts_text
no_clock h m s ms none = empty_clock (are_zero h m s ms) (count_text h (codes "H") ++ (count_text m (codes "M") ++ second_text s ms)) none

abbrev are_all_zero : ℕ → ℕ → ℕ → ℕ → ℕ → ℕ → ℕ → Bool
are_all_zero y mo d h m s ms = (y == 0) && ((mo == 0) && ((d == 0) && are_zero h m s ms))

four_true : (a b c d : Bool) → a ≡ true → b ≡ true → c ≡ true → d ≡ true → (a && (b && (c && d))) ≡ true
four_true a b c d p q r s = rw (p, q, r, s) refl

body_some : (y mo d h m s ms : ℕ) → are_all_zero y mo d h m s ms ≡ false → date_counts_text y mo d ++ clock_counts_text h m s ms ≢ []
unfolding date_counts_text
body_some y mo d h m s ms some none =
    let dt : List ℕ = count_text d (codes "D") in
    let mt : List ℕ = count_text mo (codes "M") in
    let yt : List ℕ = count_text y (codes "Y") in
    let ct : List ℕ = clock_counts_text h m s ms in
    let whole : length ((yt ++ (mt ++ dt)) ++ ct) ≡ 0 = ap length none in
    let a = length-append (yt ++ (mt ++ dt)) ct in
    let b = length-append yt (mt ++ dt) in
    let c = length-append mt dt in
    let zero : are_all_zero y mo d h m s ms ≡ true =
    four_true (y == 0) (mo == 0) (d == 0) (are_zero h m s ms) (no_count y (codes "Y") refl (omega arith))
    (no_count mo (codes "M") refl (omega arith)) (no_count d (codes "D") refl (omega arith)) (no_clock h m s ms (omega arith)) in
    let never : true ≡ false = sym zero ∙ some in cc

-- ---- durations

counted_spelled : (y mo d h m s ms : ℕ) → IsDurationInRange (YMDHMS y mo d h m s ms) → are_all_zero y mo d h m s ms ≡ false
    → IsCounted (date_counts_text y mo d ++ clock_counts_text h m s ms) (YMDHMS y mo d h m s ms)
unfolding date_counts_text
counted_spelled y mo d h m s ms r some =
    record {
      year_text = count_text y (codes "Y");
      month_text = count_text mo (codes "M");
      day_text = count_text d (codes "D");
      clock_text = clock_counts_text h m s ms;
      year = y;
      month = mo;
      day = d;
      clock = (h, (m, (s, ms)));
      years = count_spelled (codes "Y") y r.0;
      months = count_spelled (codes "M") mo r.1;
      days = count_spelled (codes "D") d r.2;
      clocks = clock_spelled h m s ms r.3 r.4 r.5 r.6;
      some = body_some y mo d h m s ms some;
      joined = joins_three (count_text y (codes "Y")) (count_text mo (codes "M")) (count_text d (codes "D")) (clock_counts_text h m s ms);
      value = refl;
    }

some_bytes : (b : ℕ) (bs : List ℕ) → b ∷ bs ≢ []
some_bytes b bs h = cc

-- `0D`
zero_spelled : IsCounted (codes "0D") (YMDHMS 0 0 0 0 0 0 0)
zero_spelled =
    record {
      year_text = [];
      month_text = [];
      day_text = codes "0D";
      clock_text = [];
      year = 0;
      month = 0;
      day = 0;
      clock = (0, (0, (0, 0)));
      years = inl (refl, refl);
      months = inl (refl, refl);
      days = inr (record {
        digits = codes "0";
        number = record {
          some = omega arith;
          all_digits = (omega arith, tt);
          number = refl;
          fits = omega arith;
        };
        joined = refl;
      });
      clocks = inl (refl, refl);
      some = some_bytes 48 (codes "D");
      joined = refl;
      value = refl;
    }

all_counts_zero : (y mo d h m s ms : ℕ) → are_all_zero y mo d h m s ms ≡ true → YMDHMS 0 0 0 0 0 0 0 ≡ YMDHMS y mo d h m s ms
all_counts_zero y mo d h m s ms z =
    let a = and_parts (y == 0) _ z in
    let b = and_parts (mo == 0) _ a.1 in
    let c = and_parts (d == 0) _ b.1 in
    let clock = all_zero h m s ms c.1 in
    rw (eqb-true y 0 a.0, eqb-true mo 0 b.0, eqb-true d 0 c.0, clock.0, clock.1, clock.2, clock.3) refl

spelled_if : (y mo d h m s ms : ℕ) (t : Bool) → are_all_zero y mo d h m s ms ≡ t → IsDurationInRange (YMDHMS y mo d h m s ms)
    → IsDuration (cond t (codes "P0D") (codes "P" ++ (date_counts_text y mo d ++ clock_counts_text h m s ms))) (YMDHMS y mo d h m s ms)
spelled_if y mo d h m s ms true z r =
    let P : Duration → Type 0 = λ v. IsDuration (codes "P0D") v in
    subst P (all_counts_zero y mo d h m s ms z) (codes "0D", inr (inl zero_spelled), refl)
spelled_if y mo d h m s ms false z r = (
  date_counts_text y mo d ++ clock_counts_text h m s ms,
  inr (inl (counted_spelled y mo d h m s ms r z)),
  refl,
)

pub duration_spelled : (d : Duration) → IsDurationInRange d → IsDuration (duration_text d) d
unfolding duration_text date_counts_text clock_counts_text
duration_spelled (YMDHMS y mo d h m s ms) r = spelled_if y mo d h m s ms (are_all_zero y mo d h m s ms) refl r
duration_spelled (Weeks w) r = (decimal w ++ codes "W", inl (w, whole_count (codes "W") w r, refl), refl)
