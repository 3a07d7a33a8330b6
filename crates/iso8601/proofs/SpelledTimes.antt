-- The written text of a date or a time in range is in its grammar, with this value.
use Rattle.std.proofs.Common.{◌≡◌, ℕ, zero, suc, ◌≤◌, ◌||◌, ℤ, pos, negsuc, Bool, true, false, List, ◌++◌, codes, refl, subst, append_assoc}
use Rattle.std.proofs.Common.{arith, inl, inr}
use Rattle.std.specs.Prelude.{unsigned_abs, neg_ℤ}
use Rattle.std.specs.Int.{is_negative}
use Rattle.std.proofs.lemmas.Int.{ints}
use Rattle.scan_core.specs.Padded.{padded_digits}
use Rattle.scan_core.specs.Number.{sign_text}
use Rattle.scan_core.specs.Shares.{signed}
use Rattle.iso8601.specs.Dates.{IsDate}
use Rattle.iso8601.specs.DateTimes.{IsDateTime}
use Rattle.iso8601.specs.Times.{IsOffset, IsTime}
use Rattle.iso8601.specs.Ranges.{IsDateInRange, HaveOneSign, IsTimeInRange, IsDateTimeInRange}
use Rattle.iso8601.specs.Written.{year_text, date_text, time_of_day_text, offset_text, time_text, date_time_text}
use Rattle.iso8601.specs.declared.types.Date.{Date}
use Rattle.iso8601.specs.declared.types.Date.TheVariants.{YMD, Week, Ordinal}
use Rattle.iso8601.specs.declared.types.Time.{Time}
use Rattle.iso8601.specs.declared.types.DateTime.{DateTime}
use Rattle.scan_core.proofs.PaddedFacts.{padded_field}
use Rattle.iso8601.proofs.SpelledFields.{marked_spelled, year_spelled, fraction_spelled}
use Rattle.iso8601.proofs.Widths.{wide_positive, ahead_text, behind_text}

-- ---- dates

pub date_spelled : (date : Date) → IsDateInRange date → IsDate (date_text date) date
unfolding date_text
date_spelled (YMD year month day) r =
    let months = padded_field 2 1 12 month (omega arith) (omega (arith, r.2)) (omega (arith, r.2)) r.1 r.2 in
    let days = marked_spelled (codes "-") 2 1 31 day (omega arith) (omega (arith, r.4)) (omega (arith, r.4)) r.3 r.4 in
    record {
      year_text = year_text year;
      hyphen = codes "-";
      day_text = padded_digits 2 month ++ (codes "-" ++ padded_digits 2 day);
      year = year;
      years = year_spelled year r.0;
      mark = inr refl;
      days = inl (record {
        month_text = padded_digits 2 month;
        day_text = codes "-" ++ padded_digits 2 day;
        month = month;
        day = day;
        months = months;
        days = days;
        joined = refl;
        value = refl;
      });
      joined = refl;
    }
date_spelled (Week year ww d) r =
    let weeks = padded_field 2 1 53 ww (omega arith) (omega (arith, r.2)) (omega (arith, r.2)) r.1 r.2 in
    let days = marked_spelled (codes "-") 1 1 7 d (omega arith) (omega (arith, r.4)) (omega (arith, r.4)) r.3 r.4 in
    record {
      year_text = year_text year;
      hyphen = codes "-";
      day_text = codes "W" ++ (padded_digits 2 ww ++ (codes "-" ++ padded_digits 1 d));
      year = year;
      years = year_spelled year r.0;
      mark = inr refl;
      days = inr (inl (record {
        week_text = padded_digits 2 ww;
        day_text = codes "-" ++ padded_digits 1 d;
        week = ww;
        day = d;
        weeks = weeks;
        days = days;
        joined = refl;
        value = refl;
      }));
      joined = refl;
    }
date_spelled (Ordinal year ddd) r =
    record {
      year_text = year_text year;
      hyphen = codes "-";
      day_text = padded_digits 3 ddd;
      year = year;
      years = year_spelled year r.0;
      mark = inr refl;
      days = inr (inr (ddd, padded_field 3 1 366 ddd (omega arith) (omega (arith, r.2)) (omega (arith, r.2)) r.1 r.2, refl));
      joined = refl;
    }

-- ---- offsets

-- a text of a sign and two magnitudes
parts_spelled : (negative : Bool) (h m : ℕ) → h ≤ 24 → m ≤ 59 → IsOffset
    (sign_text negative ++ (padded_digits 2 h ++ (codes ":" ++ padded_digits 2 m))) (signed negative h, signed negative m)
parts_spelled negative h m p q =
    inr (inr (record {
      negative = negative;
      hour_text = padded_digits 2 h;
      minute_text = codes ":" ++ padded_digits 2 m;
      hour = h;
      minute = m;
      hours = padded_field 2 0 24 h (omega arith) (omega arith) (omega arith) (omega arith) p;
      minutes = inr (marked_spelled (codes ":") 2 0 59 m (omega arith) (omega arith) (omega arith) (omega arith) q);
      joined = refl;
      value = refl;
    }))

ahead_spelled : (h m : ℕ) → h ≤ 24 → m ≤ 59 → IsOffset (offset_text (pos h) (pos m)) (pos h, pos m)
ahead_spelled h m p q = rw (ahead_text h m, wide_positive h, wide_positive m) (parts_spelled false h m p q)

-- where one part is negative, each is the negated magnitude
behind_spelled : (a b : ℤ) (h m : ℕ) → (is_negative a || is_negative b) ≡ true → neg_ℤ a ≡ pos h → neg_ℤ b ≡ pos m → a ≡ neg_ℤ (pos h)
    → b ≡ neg_ℤ (pos m) → h ≤ 24 → m ≤ 59 → IsOffset (offset_text a b) (a, b)
behind_spelled a b h m t x y u v p q =
    let both : (neg_ℤ (pos h), neg_ℤ (pos m)) ≡ (a, b) = rw (u, v) refl in
    let P : ℤ × ℤ → Type 0 = λ o. IsOffset (offset_text a b) o in
    subst P both (rw (behind_text a b t, x, y, wide_positive h, wide_positive m) (parts_spelled true h m p q))

offset_spelled : (a b : ℤ) → unsigned_abs a ≤ 24 → unsigned_abs b ≤ 59 → HaveOneSign a b → IsOffset (offset_text a b) (a, b)
offset_spelled (pos h) (pos m) p q s = ahead_spelled h m p q
offset_spelled (pos zero) (negsuc m) p q s = behind_spelled (pos 0) (negsuc m) 0 (suc m) refl refl refl refl refl (omega arith) q
offset_spelled (pos (suc h)) (negsuc m) p q (inl s) = absurd (omega (arith, ints, s.1))
offset_spelled (pos (suc h)) (negsuc m) p q (inr s) = absurd (omega (arith, ints, s.0))
offset_spelled (negsuc h) (pos zero) p q s = behind_spelled (negsuc h) (pos 0) (suc h) 0 refl refl refl refl refl p (omega arith)
offset_spelled (negsuc h) (pos (suc m)) p q (inl s) = absurd (omega (arith, ints, s.0))
offset_spelled (negsuc h) (pos (suc m)) p q (inr s) = absurd (omega (arith, ints, s.1))
offset_spelled (negsuc h) (negsuc m) p q s = behind_spelled (negsuc h) (negsuc m) (suc h) (suc m) refl refl refl refl refl p q

-- ---- times

joins : (h m s f o : List ℕ) → (h ++ (codes ":" ++ (m ++ (codes ":" ++ (s ++ (codes "." ++ f)))))) ++ o ≡ h
    ++ ((codes ":" ++ m) ++ ((codes ":" ++ s) ++ ((codes "." ++ f) ++ o)))
joins h m s f o = simp append_assoc refl

pub time_spelled : (t : Time) → IsTimeInRange t → IsTime (time_text t) t
unfolding time_text time_of_day_text
time_spelled t r =
    record {
      hour_text = padded_digits 2 t.hour;
      minute_text = codes ":" ++ padded_digits 2 t.minute;
      second_text = codes ":" ++ padded_digits 2 t.second;
      fraction = codes "." ++ padded_digits 3 t.millisecond;
      offset = offset_text t.tz_offset_hours t.tz_offset_minutes;
      hours = padded_field 2 0 24 t.hour (omega arith) (omega (arith, r.0)) (omega (arith, r.0)) (omega arith) r.0;
      minutes = marked_spelled (codes ":") 2 0 59 t.minute (omega arith) (omega (arith, r.1)) (omega (arith, r.1)) (omega arith) r.1;
      seconds = inr (marked_spelled (codes ":") 2 0 60 t.second (omega arith) (omega (arith, r.2)) (omega (arith, r.2)) (omega arith) r.2);
      fractions = inr (fraction_spelled t.millisecond r.3);
      offsets = offset_spelled t.tz_offset_hours t.tz_offset_minutes r.4 r.5 r.6;
      joined = joins (padded_digits 2 t.hour) (padded_digits 2 t.minute) (padded_digits 2 t.second) (padded_digits 3 t.millisecond)
          (offset_text t.tz_offset_hours t.tz_offset_minutes);
    }

pub date_time_spelled : (t : DateTime) → IsDateTimeInRange t → IsDateTime (date_time_text t) t
unfolding date_time_text
date_time_spelled t r =
    record {
      date_text = date_text t.date;
      time_text = time_text t.time;
      dates = date_spelled t.date r.0;
      times = time_spelled t.time r.1;
      joined = refl;
    }
