-- The written text of an interval of one sign is read back.
use Rattle.std.proofs.Common.{◌≡◌, ℕ, zero, suc, ◌+◌, ◌*◌, ◌/◌, ◌%◌, ◌<◌, ◌≤◌, ◌^◌, ◌==◌, ◌&&◌, ◌||◌, not, Bool, true, false, cond, IsTrue}
use Rattle.std.proofs.Common.{List, [], ◌++◌, length, codes, decimal, unsigned_abs, FitsSigned, w32, w64, refl, sym, ◌∙◌, ap, subst, arith}
use Rattle.std.proofs.Common.{append_assoc}
use Rattle.std.specs.Prelude.{ℤ, pos, negsuc}
use Rattle.std.specs.Int.{is_negative}
use Rattle.std.specs.Ordering.{int_eq}
use Rattle.std.proofs.lemmas.Bool.Decides.{nat_tests}
use Rattle.std.proofs.lemmas.Bool.{and_parts}
use Rattle.scan_core.specs.Digits.{AreDigits, number_of}
use Rattle.scan_core.specs.Padded.{padded_digits}
use Rattle.scan_core.specs.Shares.{fits_type, rounded, signed}
use Rattle.scan_core.specs.Sums.{fits, total}
use Rattle.scan_core.specs.declared.share.Part.{Part}
use Rattle.scan_core.specs.declared.share.Part.TheVariants.{Months, Days, Micros}
use Rattle.scan_core.proofs.DigitFacts.{digits_decimal, number_of-decimal}
use Rattle.scan_core.proofs.FitFacts.{fits_32, fits_64}
use Rattle.scan_core.proofs.PaddedFacts.{digits-padded, length-padded, number_of-padded}
use Rattle.scan_core.proofs.RoundingFacts.{rounded-nil, rounded_six}
use Rattle.scan_core.proofs.Signs.{fits_type-serves, int_eq-zero, is_negative-pos, Serves, abs_zero}
use Rattle.scan_core.proofs.TrimmedFacts.{digits-trimmed, rounded-trimmed}
use Rattle.pg_interval_2.specs.Denotes.{Denotes}
use Rattle.pg_interval_2.specs.Parts.{is_zero}
use Rattle.pg_interval_2.specs.Ranges.{IsInRange}
use Rattle.pg_interval_2.specs.declared.interval.Interval.{Interval}
use Rattle.xsd_duration.specs.Durations.{Spelling, IsSpelling, SpellsDuration, lettered_text, counts_of, date_counts_text, time_counts_text}
use Rattle.xsd_duration.specs.Written.{digits_of, xml_duration_text, has_negative, has_one_sign, has_positive, is_positive, written_spelling}
use Rattle.xsd_duration.specs.inside.Writing.{date_part, time_part}
use Rattle.xsd_duration.proofs.SumFacts.{all_fit, days_are, micros_are, months_are, six_shares, sums_of}
use Rattle.xsd_duration.proofs.WrittenFacts.{date_is, digits_zero, fraction_none, digits_some, length_decimal_six, no_count, no_digits}
use Rattle.xsd_duration.proofs.WrittenFacts.{no_time, none_left, second_digits, time_is, fraction_digits}

-- ---- one sign

serves_if : (n : Bool) (z : ℤ) → (is_negative z ≡ true → n ≡ true) → (is_positive z ≡ true → n ≡ false) → Serves n z
serves_if true (pos zero) below above = refl
serves_if false (pos zero) below above = refl
serves_if n (pos (suc k)) below above = let up : is_positive (pos (suc k)) ≡ true = grind (arith, nat_tests) in rw (above up) refl
serves_if n (negsuc k) below above = rw (below refl) refl

first_true : (a b : Bool) → a ≡ true → (a || b) ≡ true
first_true a b h = rw h refl

second_true : (a b : Bool) → b ≡ true → (a || b) ≡ true
second_true true b h = refl
second_true false b h = h

not_both : (n p : Bool) → not (n && p) ≡ true → p ≡ true → n ≡ false
not_both true true h is = cc
not_both true false h is = cc
not_both false p h is = refl

-- the sign of the whole serves each part
record AreServed (t : Interval) : Type 0 where
  pub months : Serves (has_negative t) t.months
  pub days : Serves (has_negative t) t.days
  pub micros : Serves (has_negative t) t.microseconds

served : (t : Interval) → has_one_sign t ≡ true → AreServed t
unfolding has_one_sign
served t one =
    let above = not_both (has_negative t) (has_positive t) one in
    let nd = is_negative t.days in
    let nu = is_negative t.microseconds in
    let pd = is_positive t.days in
    let pu = is_positive t.microseconds in
    record {
      months = serves_if (has_negative t) t.months (first_true (is_negative t.months) (nd || nu))
          (λ h. above (first_true (is_positive t.months) (pd || pu) h));
      days = serves_if (has_negative t) t.days (λ h. second_true (is_negative t.months) (nd || nu) (first_true nd nu h))
          (λ h. above (second_true (is_positive t.months) (pd || pu) (first_true pd pu h)));
      micros = serves_if (has_negative t) t.microseconds (λ h. second_true (is_negative t.months) (nd || nu) (second_true nd nu h))
          (λ h. above (second_true (is_positive t.months) (pd || pu) (second_true pd pu h)));
    }

-- ---- magnitudes

abs_32 : (z : ℤ) → FitsSigned w32 z → unsigned_abs z ≤ 2 ^ 31
abs_32 (pos n) h = let less = h.sfits in omega (arith, less)
abs_32 (negsuc n) h = let less = h.sfits in omega (arith, less)

abs_64 : (z : ℤ) → FitsSigned w64 z → unsigned_abs z ≤ 2 ^ 63
abs_64 (pos n) h = let less = h.sfits in omega (arith, less)
abs_64 (negsuc n) h = let less = h.sfits in omega (arith, less)

int_zero : (z : ℤ) → unsigned_abs z ≡ 0 → int_eq z (pos 0) ≡ true
int_zero z none = rw (abs_zero z none) refl

zero_is : (t : Interval) → unsigned_abs t.months ≡ 0 → unsigned_abs t.days ≡ 0 → unsigned_abs t.microseconds ≡ 0 → is_zero t ≡ true
zero_is t m d u = rw (int_zero t.months m, int_zero t.days d, int_zero t.microseconds u) refl

eq_zero : (z : ℤ) → int_eq z (pos 0) ≡ true → unsigned_abs z ≡ 0
eq_zero z h = ap unsigned_abs (int_eq-zero z h)

pub zero_micros : (t : Interval) → is_zero t ≡ true → unsigned_abs t.microseconds ≡ 0
zero_micros t h =
    let first = and_parts (int_eq t.months (pos 0)) (int_eq t.days (pos 0) && int_eq t.microseconds (pos 0)) h in
    eq_zero t.microseconds (and_parts (int_eq t.days (pos 0)) (int_eq t.microseconds (pos 0)) first.1).1

-- ---- digits

digits_are : (n : ℕ) → n < 2 ^ 64 → AreDigits (digits_of n)
digits_are zero small = tt
digits_are (suc n) small = subst AreDigits (sym (digits_some (suc n) (λ e. omega (arith, e)))) (digits_decimal (suc n) small)

number_is : (n : ℕ) → n < 2 ^ 64 → number_of (digits_of n) ≡ n
number_is zero small = refl
number_is (suc n) small = ap number_of (digits_some (suc n) (λ e. omega (arith, e))) ∙ number_of-decimal (suc n) small

either_digits : (t : Bool) (n : ℕ) → n < 2 ^ 64 → AreDigits (cond {A = List ℕ} t (digits_of n) (decimal n))
either_digits true n small = digits_are n small
either_digits false n small = digits_decimal n small

either_number : (t : Bool) (n : ℕ) → n < 2 ^ 64 → number_of (cond {A = List ℕ} t (digits_of n) (decimal n)) ≡ n
either_number true n small = number_is n small
either_number false n small = number_of-decimal n small

fraction_number : (n : ℕ) → n < 1_000_000 → rounded 1_000_000 (fraction_digits n) ≡ n
fraction_number n small =
    let six : length (padded_digits 6 n) ≡ 6 = omega (arith, length-padded 6 n, length_decimal_six n small) in
    rounded-trimmed 1_000_000 (padded_digits 6 n) ∙ rounded_six (padded_digits 6 n) six ∙ number_of-padded 6 n (omega (arith, small))

-- digits of seconds are left out where there is no fraction
pointed_if : (null : Bool) (seconds micros : ℕ) → seconds < 60 → second_digits null seconds micros ≡ [] → fraction_digits micros ≡ []
pointed_if null seconds zero few none = fraction_none
pointed_if null seconds (suc m) few none = absurd (let is = (no_digits null seconds (suc m) few none).1 in omega (arith, is))

-- ---- the written spelling

written_is : (t : Interval) → IsInRange t → IsSpelling (written_spelling t)
written_is t r =
    let m = abs_32 t.months r.months in
    let d = abs_32 t.days r.days in
    let u = abs_64 t.microseconds r.microseconds in
    let micros : ℕ = unsigned_abs t.microseconds in
    record {
      years = digits_are (unsigned_abs t.months / 12) (omega (arith, m));
      months = digits_are (unsigned_abs t.months % 12) (omega arith);
      days = digits_are (unsigned_abs t.days) (omega (arith, d));
      hours = digits_are (micros / 3_600_000_000) (omega (arith, u));
      minutes = digits_are (micros / 60_000_000 % 60) (omega arith);
      seconds = either_digits ((micros % 1_000_000 == 0) && not (is_zero t)) (micros / 1_000_000 % 60) (omega arith);
      fraction = digits-trimmed (padded_digits 6 (micros % 1_000_000)) (digits-padded 6 (micros % 1_000_000) (omega arith));
      pointed = pointed_if (is_zero t) (micros / 1_000_000 % 60) (micros % 1_000_000) (omega arith);
      some = λ none.
          let parts = none_left (date_counts_text (written_spelling t)) (time_counts_text (written_spelling t)) none in
          let year = none_left (lettered_text (digits_of (unsigned_abs t.months / 12)) (codes "Y"))
          (lettered_text (digits_of (unsigned_abs t.months % 12)) (codes "M") ++ lettered_text (digits_of (unsigned_abs t.days)) (codes "D"))
          parts.0 in
          let month = none_left (lettered_text (digits_of (unsigned_abs t.months % 12)) (codes "M"))
          (lettered_text (digits_of (unsigned_abs t.days)) (codes "D")) year.1 in
          let y0 = digits_zero (unsigned_abs t.months / 12) (omega (arith, m))
          (no_count (digits_of (unsigned_abs t.months / 12)) (codes "Y") year.0)
          in
          let m0 = digits_zero (unsigned_abs t.months % 12) (omega arith)
          (no_count (digits_of (unsigned_abs t.months % 12)) (codes "M") month.0)
          in
          let d0 = digits_zero (unsigned_abs t.days) (omega (arith, d)) (no_count (digits_of (unsigned_abs t.days)) (codes "D") month.1) in
          let time = no_time (is_zero t) micros (omega (arith, u)) parts.1 in
          let whole : unsigned_abs t.months ≡ 0 = omega (arith, y0, m0) in
          let both : true ≡ false = sym (zero_is t whole d0 time.0) ∙ time.1 in
          cc;
    }

-- ---- its sums

months_back : (t : Interval) → IsInRange t → AreServed t → total Months (counts_of (written_spelling t)) ≡ t.months
months_back t r s =
    let m = abs_32 t.months r.months in
    let y0 = number_is (unsigned_abs t.months / 12) (omega (arith, m)) in
    let m0 = number_is (unsigned_abs t.months % 12) (omega arith) in
    months_are (written_spelling t) (unsigned_abs t.months) (omega (arith, y0, m0)) ∙ s.months

days_back : (t : Interval) → IsInRange t → AreServed t → total Days (counts_of (written_spelling t)) ≡ t.days
days_back t r s = let d = abs_32 t.days r.days in
    days_are (written_spelling t) (unsigned_abs t.days) (number_is (unsigned_abs t.days) (omega (arith, d))) ∙ s.days

-- the four parts of a time
parts_whole : (u : ℕ) → u / 3_600_000_000 * 3_600_000_000
    + (u / 60_000_000 % 60 * 60_000_000 + (u / 1_000_000 % 60 * 1_000_000 + u % 1_000_000)) ≡ u
parts_whole u = omega arith

abbrev seconds_of : Interval → List ℕ
seconds_of t = (written_spelling t).seconds

second_number : (t : Interval) → number_of (seconds_of t) ≡ unsigned_abs t.microseconds / 1_000_000 % 60
second_number t =
    let micros : ℕ = unsigned_abs t.microseconds in
    either_number ((micros % 1_000_000 == 0) && not (is_zero t)) (micros / 1_000_000 % 60) (omega arith)

micros_back : (t : Interval) → IsInRange t → AreServed t → total Micros (counts_of (written_spelling t)) ≡ t.microseconds
micros_back t r s =
    let u = abs_64 t.microseconds r.microseconds in
    let micros : ℕ = unsigned_abs t.microseconds in
    let h = number_is (micros / 3_600_000_000) (omega (arith, u)) in
    let m = number_is (micros / 60_000_000 % 60) (omega arith) in
    let f = fraction_number (micros % 1_000_000) (omega arith) in
    micros_are (written_spelling t) micros (rw (h, m, second_number t, f) (parts_whole micros)) ∙ s.micros

-- ---- its shares

-- a magnitude no greater than that of a part of the same sign
fits_below : (part : Part) (n : Bool) (z : ℤ) (k : ℕ) → Serves n z → k ≤ unsigned_abs z → fits_type part z ≡ true
    → fits_type part (signed n k) ≡ true
fits_below part n z k serves below fit = fits_type-serves part n z k serves below fit

written_fits : (t : Interval) → IsInRange t → AreServed t → fits (counts_of (written_spelling t)) ≡ true
written_fits t r s =
    let n = has_negative t in
    let micros : ℕ = unsigned_abs t.microseconds in
    let months = fits_32 t.months r.months in
    let days = fits_32 t.days r.days in
    let time = fits_64 t.microseconds r.microseconds in
    let m = abs_32 t.months r.months in
    let d = abs_32 t.days r.days in
    let u = abs_64 t.microseconds r.microseconds in
    let y0 = number_is (unsigned_abs t.months / 12) (omega (arith, m)) in
    let m0 = number_is (unsigned_abs t.months % 12) (omega arith) in
    let d0 = number_is (unsigned_abs t.days) (omega (arith, d)) in
    let h0 = number_is (micros / 3_600_000_000) (omega (arith, u)) in
    let i0 = number_is (micros / 60_000_000 % 60) (omega arith) in
    let s0 = second_number t in
    let f0 = fraction_number (micros % 1_000_000) (omega arith) in
    let twelve = rounded-nil 12 in
    let sixty = rounded-nil 60 in
    all_fit (counts_of (written_spelling t))
    (six_shares (written_spelling t) (written_is t r)
    (fits_below Months n t.months (12 * number_of (digits_of (unsigned_abs t.months / 12)) + rounded 12 []) s.months
    (omega (arith, y0, twelve)) months)
    (fits_below Months n t.months (number_of (digits_of (unsigned_abs t.months % 12))) s.months (omega (arith, m0)) months)
    (fits_below Days n t.days (number_of (digits_of (unsigned_abs t.days))) s.days (omega (arith, d0)) days)
    (fits_below Micros n t.microseconds (number_of (digits_of (micros / 3_600_000_000)) * 3_600_000_000 + rounded 60 [] * 60_000_000) s.micros
    (omega (arith, h0, sixty)) time)
    (fits_below Micros n t.microseconds (number_of (digits_of (micros / 60_000_000 % 60)) * 60_000_000 + rounded 60 [] * 1_000_000) s.micros
    (omega (arith, i0, sixty)) time)
    (fits_below Micros n t.microseconds
    (number_of (seconds_of t) * 1_000_000 + rounded 1_000_000 (fraction_digits (micros % 1_000_000))) s.micros (omega (arith, s0, f0)) time))
    (rw (months_back t r s) months) (rw (days_back t r s) days) (rw (micros_back t r s) time)

pub written_denotes : (t : Interval) → IsInRange t → IsTrue (has_one_sign t) → Denotes SpellsDuration (xml_duration_text t) t
unfolding xml_duration_text
written_denotes t r one =
    let s = served t one in
    let same : t ≡ sums_of (counts_of (written_spelling t)) = rw (months_back t r s, days_back t r s, micros_back t r s) refl in
    (counts_of (written_spelling t), (written_spelling t, written_is t r, refl, refl), written_fits t r s, same)

-- ---- what is denoted has one sign

not_positive : (k : ℕ) → is_positive (signed true k) ≡ false
not_positive zero = refl
not_positive (suc k) = refl

not_both_if : (t : Bool) → not (t && false) ≡ true
not_both_if true = refl
not_both_if false = refl

one_sign : (n : Bool) (a b c : ℕ)
    → has_one_sign (record { months = signed n a; days = signed n b; microseconds = signed n c }) ≡ true
unfolding has_one_sign
one_sign true a b c =
    rw (not_positive a, not_positive b, not_positive c)
    (not_both_if (has_negative (record { months = signed true a; days = signed true b; microseconds = signed true c })))
one_sign false a b c = rw (is_negative-pos a, is_negative-pos b, is_negative-pos c) refl

sums_sign : (s : Spelling) → has_one_sign (sums_of (counts_of s)) ≡ true
sums_sign s = rw (months_are s _ refl, days_are s _ refl, micros_are s _ refl) (one_sign s.negative _ _ _)

pub denoted_sign : (text : List ℕ) (t : Interval) → Denotes SpellsDuration text t → IsTrue (has_one_sign t)
denoted_sign text t d =
    subst (λ (u : Interval). has_one_sign u ≡ true) (sym (d.3 ∙ ap sums_of d.1.3)) (sums_sign d.1.0)

-- ---- what was appended

pub text_is : (t : Interval) → IsInRange t → xml_duration_text t
    ≡ cond {A = List ℕ} (has_negative t) (codes "-") []
    ++ (codes "P" ++ (date_part (unsigned_abs t.months) (unsigned_abs t.days) ++ time_part (is_zero t) (unsigned_abs t.microseconds)))
unfolding xml_duration_text
text_is t r =
    let m = abs_32 t.months r.months in
    let d = abs_32 t.days r.days in
    let u = abs_64 t.microseconds r.microseconds in
    let date = date_is (unsigned_abs t.months) (unsigned_abs t.days) (omega (arith, m)) (omega (arith, d)) in
    let time = time_is (is_zero t) (unsigned_abs t.microseconds) (omega (arith, u)) (zero_micros t) in
    rw (date, time) refl

pub text_from : (t : Interval) (n null : Bool) (m d u : ℕ) → IsInRange t → n ≡ has_negative t → m ≡ unsigned_abs t.months
    → d ≡ unsigned_abs t.days → null ≡ is_zero t → u ≡ unsigned_abs t.microseconds → xml_duration_text t
    ≡ cond {A = List ℕ} n (codes "-") [] ++ (codes "P" ++ (date_part m d ++ time_part null u))
text_from t n null m d u r n1 m1 d1 z1 u1 = rw (n1, m1, d1, z1, u1) (text_is t r)

joined : (old a b c d : List ℕ) → ((old ++ (a ++ b)) ++ c) ++ d ≡ old ++ (a ++ (b ++ (c ++ d)))
joined old a b c d = simp append_assoc refl

pub appended : (old a b c d x y z whole : List ℕ) → x ≡ old ++ (a ++ b) → y ≡ x ++ c → z ≡ y ++ d → whole ≡ a ++ (b ++ (c ++ d))
    → z ≡ old ++ whole
appended old a b c d x y z whole first second third is =
    third ∙ ap (λ (l : List ℕ). l ++ d) second ∙ ap (λ (l : List ℕ). (l ++ c) ++ d) first ∙ joined old a b c d
    ∙ ap (λ (l : List ℕ). old ++ l) (sym is)
