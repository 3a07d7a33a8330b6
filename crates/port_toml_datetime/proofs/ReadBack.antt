-- The text of a well-formed date-time is in the grammar, with its value.
use Rattle.std.proofs.Common.{◌≡◌, ℕ, zero, suc, ◌+◌, ◌-◌, ◌*◌, ◌/◌, ◌%◌, ◌^◌, ◌<◌, ◌≤◌, ◌==◌, ◌||◌, Bool, true, false, cond, ℤ, pos}
use Rattle.std.proofs.Common.{negsuc, neg_ℤ, List, [], ◌∷◌, ◌++◌, length, take, replicate, Option, Some, None, append-nil, append_assoc}
use Rattle.std.proofs.Common.{length-append, codes, refl, sym, ◌∙◌, ap, subst, arith, inl, inr}
use Rattle.std.proofs.lemmas.List.{take_at, length-replicate, replicate-append-replicate}
use Rattle.scan_core.specs.Digits.{AreDigits, number_of}
use Rattle.scan_core.specs.Padded.{padded_digits, trimmed_digits}
use Rattle.scan_core.proofs.DigitFacts.{digits_left}
use Rattle.scan_core.proofs.PaddedFacts.{padded_field}
use Rattle.port_toml_datetime.specs.declared.date.Date.{Date}
use Rattle.port_toml_datetime.specs.declared.time.Time.{Time}
use Rattle.port_toml_datetime.specs.declared.offset.Offset.{Offset}
use Rattle.port_toml_datetime.specs.declared.offset.Offset.TheVariants.{Z, Custom}
use Rattle.port_toml_datetime.specs.declared.datetime.Datetime.{Datetime}
use Rattle.scan_core.specs.Fields.{IsField}
use Rattle.port_toml_datetime.specs.Dates.{IsFullDate}
use Rattle.scan_core.specs.Calendar.{is_leap_year, days_in_month}
use Rattle.port_toml_datetime.specs.Times.{nanoseconds, IsSecondFraction, IsPartialTime}
use Rattle.port_toml_datetime.specs.inside.GrammarParts.{IsPerhapsSeconds}
use Rattle.port_toml_datetime.specs.Offsets.{IsTimeOffset}
use Rattle.port_toml_datetime.specs.Datetimes.{IsDatetime, datetime_of}
use Rattle.scan_core.proofs.TrimmedFacts.{Fills, trimmed_fills}
use Rattle.port_toml_datetime.specs.Texts.{or_zero, fraction_text, full_date_text, partial_second_text, partial_time_text, time_offset_text}
use Rattle.port_toml_datetime.specs.Texts.{part_text, delimiter_text, text_of}
use Rattle.port_toml_datetime.specs.WellFormed.{IsRealDay, AreRealSeconds, IsRealTime, IsOffsetInRange, AreWellFormed, IsWellFormed}

-- ---- fields

two_field : (lo hi n : ℕ) → hi < 100 → lo ≤ n → n ≤ hi → IsField 2 lo hi (padded_digits 2 n) n
two_field lo hi n small least most = padded_field 2 lo hi n (omega arith) (omega arith) (omega arith) least most

-- ---- fractions

zero_fills : (text ds : List ℕ) → 0 < length ds → Fills text ds → Fills (or_zero text) ds
zero_fills [] ds some (zero, e) = let l = ap length e in absurd (omega (arith, l, some))
zero_fills [] ds some (suc k, e) = (k, e)
zero_fills (b ∷ bs) ds some r = r

filled : (text ds : List ℕ) → length ds ≡ 9 → Fills text ds → take 9 (text ++ replicate 9 48) ≡ ds
filled text ds nine r =
    let l : length ds ≡ length text + length {A = ℕ} (replicate r.0 48) = rw (r.1, length-append) refl in
    let j : ℕ = 9 - r.0 in
    let e : 9 ≡ r.0 + j = omega (arith, l, nine, length-replicate {A = ℕ} r.0 48) in
    let zeros : replicate 9 48 ≡ replicate r.0 48 ++ replicate j 48 = ap (λ (n : ℕ). replicate n 48) e
    ∙ sym {A = List ℕ} (replicate-append-replicate {A = ℕ} r.0 j 48) in
    let split : text ++ replicate 9 48 ≡ ds ++ replicate j 48 = ap (λ (x : List ℕ). text ++ x) zeros
    ∙ sym (append_assoc text (replicate r.0 48) (replicate j 48)) ∙ ap (λ (x : List ℕ). x ++ replicate j 48) (sym r.1) in
    rw split (take_at ds (replicate j 48) 9 nine)

some_digit : (text : List ℕ) → 0 < length (or_zero text)
some_digit [] = omega arith
some_digit (b ∷ bs) = omega arith

fraction_back : (n : ℕ) → n < 10 ^ 9 → IsSecondFraction (codes "." ++ fraction_text n) (Some n)
unfolding nanoseconds fraction_text
fraction_back n small =
    let f = padded_field 9 0 (10 ^ 9) n (omega arith) small (omega arith) (omega arith) (omega arith) in
    let fills = zero_fills (trimmed_digits (padded_digits 9 n)) (padded_digits 9 n) (omega (arith, f.long))
    (trimmed_fills (padded_digits 9 n)) in
    let text : List ℕ = or_zero (trimmed_digits (padded_digits 9 n)) in
    let whole = filled text (padded_digits 9 n) f.long fills in
    record {
      digits = text;
      some = some_digit (trimmed_digits (padded_digits 9 n));
      all_digits = digits_left text (replicate fills.0 48) (subst AreDigits fills.1 f.digits);
      joined = refl;
      value = ap (λ (m : ℕ). Some m) (f.number ∙ ap number_of (sym whole));
    }

-- ---- the parts

month_if : (february leap short : Bool) → cond {A = ℕ} february (cond {A = ℕ} leap 29 28) (cond {A = ℕ} short 30 31) < 100
month_if true true short = omega arith
month_if true false short = omega arith
month_if false leap true = omega arith
month_if false leap false = omega arith

days_short : (year month : ℕ) → days_in_month (pos year) month < 100
days_short year month = month_if (month == 2) (is_leap_year (pos year)) (((month == 4 || month == 6) || month == 9) || month == 11)

date_back : (d : Date) → IsRealDay d → IsFullDate (full_date_text d) d
unfolding full_date_text
date_back d r =
    record {
      year_text = padded_digits 4 d.year;
      month_text = padded_digits 2 d.month;
      day_text = padded_digits 2 d.day;
      years = padded_field 4 0 9999 d.year (omega arith) (omega (arith, r.year)) (omega (arith, r.year)) (omega arith) r.year;
      months = two_field 1 12 d.month (omega arith) r.month r.months;
      days = two_field 1 _ d.day (days_short d.year d.month) r.day r.days;
      joined = refl;
    }

seconds_back : (s n : Option ℕ) → AreRealSeconds s n → IsPerhapsSeconds (partial_second_text s n) s n
seconds_back None None a = inl (refl, refl, refl)
seconds_back None (Some n) a = absurd a
seconds_back (Some s) None a =
    inr (record {
      digits = padded_digits 2 s;
      fraction = [];
      number = s;
      field = two_field 0 60 s (omega arith) (omega arith) a;
      fractions = inl (refl, refl);
      joined = ap (λ (l : List ℕ). 58 ∷ l) (sym (append-nil (padded_digits 2 s)));
      value = refl;
    })
seconds_back (Some s) (Some n) a =
    inr (record {
      digits = padded_digits 2 s;
      fraction = codes "." ++ fraction_text n;
      number = s;
      field = two_field 0 60 s (omega arith) (omega arith) a.0;
      fractions = inr (fraction_back n a.1);
      joined = refl;
      value = refl;
    })

time_back : (t : Time) → IsRealTime t → IsPartialTime (partial_time_text t) t
unfolding partial_time_text
time_back t c =
    record {
      hour_text = padded_digits 2 t.hour;
      minute_text = padded_digits 2 t.minute;
      second_text = partial_second_text t.second t.nanosecond;
      hours = two_field 0 23 t.hour (omega arith) (omega arith) c.hour;
      minutes = two_field 0 59 t.minute (omega arith) (omega arith) c.minute;
      seconds = seconds_back t.second t.nanosecond c.seconds;
      joined = refl;
    }

minutes_whole : (n : ℕ) → n ≡ 60 * (n / 60) + n % 60
minutes_whole n = omega arith

negative_is : (n : ℕ) → negsuc n ≡ neg_ℤ (pos (n + 1))
negative_is n = let e : n + 1 ≡ suc n = omega arith in rw e refl

offset_back : (o : Offset) → IsOffsetInRange o → IsTimeOffset (time_offset_text o) o
unfolding time_offset_text
offset_back Z near = inl (inl refl, refl)
offset_back (Custom (pos n)) near =
    inr (record {
      negative = false;
      hour_text = padded_digits 2 (n / 60);
      minute_text = padded_digits 2 (n % 60);
      hour = n / 60;
      minute = n % 60;
      hours = two_field 0 23 (n / 60) (omega arith) (omega arith) (omega arith);
      minutes = two_field 0 59 (n % 60) (omega arith) (omega arith) (omega arith);
      joined = refl;
      value = ap (λ (m : ℕ). Custom (pos m)) (minutes_whole n);
    })
offset_back (Custom (negsuc n)) near =
    inr (record {
      negative = true;
      hour_text = padded_digits 2 ((n + 1) / 60);
      minute_text = padded_digits 2 ((n + 1) % 60);
      hour = (n + 1) / 60;
      minute = (n + 1) % 60;
      hours = two_field 0 23 ((n + 1) / 60) (omega arith) (omega arith) (omega arith);
      minutes = two_field 0 59 ((n + 1) % 60) (omega arith) (omega arith) (omega arith);
      joined = refl;
      value = ap (λ (z : ℤ). Custom z) (negative_is n ∙ ap (λ (m : ℕ). neg_ℤ (pos m)) (minutes_whole (n + 1)));
    })

-- ---- the whole

parts_back : (d : Option Date) (t : Option Time) (o : Option Offset) → AreWellFormed d t o
    → IsDatetime (part_text full_date_text d ++ (delimiter_text d t ++ (part_text partial_time_text t ++ part_text time_offset_text o)))
    (datetime_of d t o)
parts_back (Some d) (Some t) (Some o) w =
    inl (record {
      date_text = full_date_text d;
      delimiter = codes "T";
      time_text = partial_time_text t;
      offset_text = time_offset_text o;
      date = d;
      time = t;
      offset = Some o;
      dates = date_back d w.0;
      delimits = inl refl;
      times = time_back t w.1;
      offsets =
          inr (o, offset_back o w.2, refl);
      joined = refl;
      made = refl;
    })
parts_back (Some d) (Some t) None w =
    inl (record {
      date_text = full_date_text d;
      delimiter = codes "T";
      time_text = partial_time_text t;
      offset_text = [];
      date = d;
      time = t;
      offset = None;
      dates = date_back d w.0;
      delimits = inl refl;
      times = time_back t w.1;
      offsets = inl (refl, refl);
      joined =
          refl;
      made = refl;
    })
parts_back (Some d) None None w = inr (inl (d, rw (append-nil (full_date_text d)) (date_back d w), refl))
parts_back None (Some t) None w = inr (inr (t, rw (append-nil (partial_time_text t)) (time_back t w), refl))
parts_back (Some d) None (Some o) w = absurd w
parts_back None None o w = absurd w
parts_back None (Some t) (Some o) w = absurd w

pub read_back : (d : Datetime) → IsWellFormed d → IsDatetime (text_of d) d
unfolding text_of
read_back d w = parts_back d.date d.time d.offset w
