-- Written texts: their lengths, and that they are read back.
use Rattle.std.proofs.Common.{◌≡◌, ℕ, ◌+◌, ◌-◌, ◌/◌, ◌%◌, ◌^◌, ◌<◌, ◌≤◌, ◌==◌, ◌||◌, Bool, true, false, cond, List, [], ◌++◌, append_assoc}
use Rattle.std.proofs.Common.{length, length-append, replicate, decimal, refl, sym, ◌∙◌, ap, subst, inl, inr, arith, Option, Some, None}
use Rattle.std.specs.Prelude.{ℤ, pos, codes}
use Rattle.std.proofs.lemmas.Bool.{eqb-true}
use Rattle.std.proofs.lemmas.Bool.Decides.{nat_tests}
use Rattle.std.proofs.lemmas.Fmt.{length-decimal-le}
use Rattle.scan_core.specs.Calendar.{days_in_month, is_leap_year}
use Rattle.scan_core.specs.Digits.{number_of}
use Rattle.scan_core.specs.Padded.{padded_digits, trimmed_digits}
use Rattle.scan_core.proofs.PaddedFacts.{padded_field, length-padded, length-zeros, digits-padded, number_of-padded}
use Rattle.scan_core.proofs.TrimmedFacts.{digits-trimmed, trimmed_fills, trimmed_some, zero_dropped}
use Rattle.pg_timestamp.specs.Pieces.{IsMarkedPair, era_text}
use Rattle.pg_timestamp.specs.Dates.{IsLongYear, calendar_year}
use Rattle.pg_timestamp.specs.Timestamps.{IsMicrosFraction, IsZoneOffset, IsPerhapsOffset, IsPerhapsTime, IsTimeOfDay, IsTimestampText}
use Rattle.pg_timestamp.specs.Values.{IsRealTimestamp, IsRealTime, IsClockTime}
use Rattle.pg_timestamp.specs.Written.{IsValueText, IsUtc, IsWritten, IsZero, blank_time_text, year_first_text, micros_text, zone_text}
use Rattle.pg_timestamp.specs.Written.{pair_text}
use Rattle.pg_timestamp.specs.Written.{perhaps_time_text, timestamp_text}
use Rattle.pg_timestamp.specs.declared.time.Time.{Time}
use Rattle.pg_timestamp.specs.declared.timestamp.Timestamp.{Timestamp}
use Rattle.pg_timestamp.specs.declared.value.Value.{Value}
use Rattle.pg_timestamp.proofs.YearFacts.{held_below}

pub length_decimal_u16 : (n : ℕ) → n < 2 ^ 16 → length (decimal n) ≤ 5
length_decimal_u16 n small = length-decimal-le 5 n (omega arith) (omega arith) (omega arith)

-- three zeros at the end of six digits
pub thousands : (n : ℕ) → 0 < n → n < 2 ^ 32 → n % 1000 ≡ 0
    → trimmed_digits (padded_digits 6 n) ≡ trimmed_digits (padded_digits 3 (n / 1000))
thousands n some fits none =
    let one = zero_dropped 6 n some (omega (arith, fits)) (omega (arith, none)) in
    let two = zero_dropped 5 (n / 10) (omega (arith, some, none)) (omega (arith, fits)) (omega (arith, none)) in
    let three = zero_dropped 4 (n / 10 / 10) (omega (arith, some, none)) (omega (arith, fits)) (omega (arith, none)) in
    let same : n / 10 / 10 / 10 ≡ n / 1000 = omega arith in
    one.0 ∙ two.0 ∙ three.0 ∙ ap (λ (k : ℕ). trimmed_digits (padded_digits 3 k)) same

-- ---- pieces

year_written : (n : ℕ) → n < 40_000 → IsLongYear (padded_digits 4 n) n
year_written n small =
    let fits : n < 2 ^ 64 = omega arith in
    let long = length-padded 4 n in
    let number : number_of (padded_digits 4 n) ≡ n = number_of-padded 4 n fits in
    record { least = omega (arith, long); digits = digits-padded 4 n fits; number = rw number (sym (held_below n small)) }

pair_written : (mark lo hi n : ℕ) → lo ≤ n → n ≤ hi → hi < 100 → IsMarkedPair mark lo hi (pair_text mark n) n
pair_written mark lo hi n least most small =
    (padded_digits 2 n, padded_field 2 lo hi n (omega arith) (omega (arith, most, small)) (omega (arith, most, small)) least most, refl)

fraction_if : (t : Bool) (micros : ℕ) → (micros == 0) ≡ t → micros < 1_000_000
    → IsMicrosFraction (cond t [] (codes "." ++ trimmed_digits (padded_digits 6 micros))) micros
fraction_if true micros h small = inl (refl, eqb-true micros 0 h)
fraction_if false micros h small =
    let fits : micros < 2 ^ 64 = omega (arith, small) in
    let some : 0 < micros = grind (arith, nat_tests) in
    let digits : List ℕ = padded_digits 6 micros in
    let text : List ℕ = trimmed_digits digits in
    let fills = trimmed_fills digits in
    let short = length-decimal-le 6 micros (omega arith) (omega (arith, small)) fits in
    let padded = length-padded 6 micros in
    let six_long : length digits ≡ 6 = omega (arith, padded, short) in
    let sum : length digits ≡ length text + fills.0 = ap length fills.1 ∙ length-append text (replicate fills.0 48)
    ∙ ap (λ (k : ℕ). length text + k) (length-zeros fills.0) in
    let left : fills.0 ≡ 6 - length text = omega (arith, six_long, sum) in
    inr (
      text,
      (trimmed_some 6 micros some fits, omega (arith, six_long, sum)),
      digits-trimmed digits (digits-padded 6 micros fits),
      refl,
      sym (number_of-padded 6 micros fits) ∙ ap number_of (fills.1 ∙ ap (λ (k : ℕ). text ++ replicate k 48) left),
    )

fraction_written : (micros : ℕ) → micros < 1_000_000 → IsMicrosFraction (micros_text micros) micros
unfolding micros_text
fraction_written micros small = fraction_if (micros == 0) micros refl small

utc_written : IsZoneOffset (codes "+00") (pos 0)
utc_written = record {
  negative = false;
  hour_text = codes "+00";
  minute_text = [];
  second_text = [];
  hour = 0;
  minute = 0;
  second = 0;
  hours = (
    codes "00",
    record {
      long = refl;
      digits = (omega arith, (omega arith, tt));
      number = refl;
      least = omega arith;
      most = omega arith;
    },
    refl,
  );
  minutes = inl (refl, refl);
  seconds_are = inl (refl, refl);
  order = λ e. e;
  joined = refl;
  value = refl;
}

offset_written : (offset : Option ℤ) → IsZero offset → IsPerhapsOffset (zone_text offset) offset
offset_written None z = refl
offset_written (Some seconds) z = subst (λ (s : ℤ). IsZoneOffset (codes "+00") s) (sym z) utc_written

-- ---- times

clock_written : (time : Time) → IsClockTime time → IsZero time.offset → IsTimeOfDay (blank_time_text time) time
unfolding blank_time_text
clock_written time (h, m, s, f) z = record {
  hour_text = pair_text 32 time.hour;
  minute_text = pair_text 58 time.minute;
  second_text = pair_text 58 time.second;
  fraction_text = micros_text time.micros;
  offset_text = zone_text time.offset;
  hours = pair_written 32 0 24 time.hour (omega arith) (omega (arith, h)) (omega arith);
  minutes = pair_written 58 0 59 time.minute (omega arith) (omega (arith, m)) (omega arith);
  seconds = pair_written 58 0 60 time.second (omega arith) (omega (arith, s)) (omega arith);
  fraction = fraction_written time.micros f;
  offset = offset_written time.offset z;
  joined = refl;
}

time_written : (time : Option Time) → IsRealTime time → IsUtc time → IsPerhapsTime (perhaps_time_text time) time
time_written None r u = refl
time_written (Some time) r u = clock_written time r.0 u

-- ---- timestamps

days_most : (a b c : Bool) → cond a (cond b 29 28) (cond c 30 31) ≤ 31
days_most true true c = omega arith
days_most true false c = omega arith
days_most false b true = omega arith
days_most false b false = omega arith

month_most : (year : ℤ) (month : ℕ) → days_in_month year month ≤ 31
month_most year month = days_most (month == 2) (is_leap_year year) ((month == 4) || (month == 6) || (month == 9) || (month == 11))

pub read_back : (t : Timestamp) → IsRealTimestamp t → IsUtc t.time → t.date.year < 40_000 → IsTimestampText (timestamp_text t) t
unfolding timestamp_text year_first_text
read_back t real utc held =
    let day = real.0.day in
    let least_month = day.0 in
    let most_month = day.1 in
    let least_day = day.2 in
    let most_day = day.3 in
    let most = month_most (calendar_year t.date.bc t.date.year) t.date.month in
    let tail : List ℕ = perhaps_time_text t.time ++ era_text t.date.bc in
    record {
      year_text = padded_digits 4 t.date.year;
      month_text = pair_text 45 t.date.month;
      day_text = pair_text 45 t.date.day;
      time_text = perhaps_time_text t.time;
      years = year_written t.date.year held;
      months = pair_written 45 1 12 t.date.month least_month most_month (omega arith);
      days = pair_written 45 1 31 t.date.day least_day (omega (arith, most_day, most)) (omega arith);
      times = time_written t.time real.1 utc;
      joined =
          append_assoc (padded_digits 4 t.date.year) (pair_text 45 t.date.month ++ pair_text 45 t.date.day) tail
          ∙ ap (λ (l : List ℕ). padded_digits 4 t.date.year ++ l) (append_assoc (pair_text 45 t.date.month) (pair_text 45 t.date.day) tail);
    }

pub text_read_back : (value : Value) (text : List ℕ) → IsValueText value text → (t : Timestamp) × IsTimestampText text t × IsWritten value t
text_read_back value text (t, w, is) =
    let P : List ℕ → Type 0 = λ l. IsTimestampText l t in
    (t, subst P (sym is) (read_back t w.real w.utc w.year), w)
