-- Written dates are in the grammars, and are read as the moment that was written.
use Rattle.std.proofs.Common.{◌≡◌, ℕ, ◌<◌, false, ℤ, pos, List, [], ◌++◌, codes, Option, Some, None, Result, Ok, Err, refl, sym, ◌∙◌, ap}
use Rattle.std.proofs.Common.{subst, append_assoc, inl, inr, arith}
use Rattle.std.specs.Prelude.{IfSome, IsSome}
use Rattle.scan_core.specs.Padded.{padded_digits}
use Rattle.scan_core.proofs.PaddedFacts.{padded_field}
use Rattle.iso8601.specs.Calendar.{after_monday}
use Rattle.internet_dates.specs.Names.{day_name, month_name}
use Rattle.internet_dates.specs.Fields.{IsFullClock}
use Rattle.internet_dates.specs.DateTimes.{number_of_day, seconds_of, IsRealMoment, IsNamedDateAt}
use Rattle.internet_dates.specs.HttpDate.{IsHttpDate}
use Rattle.internet_dates.specs.MailDate.{IsZone, IsMailDate}
use Rattle.internet_dates.specs.Readings.{IsRead}
use Rattle.internet_dates.specs.Written.{weekday_text, full_clock_text, named_date_text, moment_text, http_date_text, mail_date_text}
use Rattle.internet_dates.specs.declared.date_time.DateTime.{DateTime}
use Rattle.internet_dates.specs.declared.error.DateError.{DateError}
use Rattle.internet_dates.specs.declared.error.DateError.TheVariants.{Syntax, NoSuchMoment, Range}
use Rattle.internet_dates.proofs.DayFacts.{weekday_small}
use Rattle.internet_dates.proofs.WrittenFacts.{most_days}

clock_spelled : (hour minute second : ℕ) → hour < 24 → minute < 60 → second < 60
    → IsFullClock (full_clock_text hour minute second) hour minute second
unfolding full_clock_text
clock_spelled hour minute second h m s = record {
  hour_text = padded_digits 2 hour;
  minute_text = padded_digits 2 minute;
  second_text = padded_digits 2 second;
  hours = padded_field 2 0 24 hour (omega arith) (omega (arith, h)) (omega (arith, h)) (omega arith) (omega (arith, h));
  minutes = padded_field 2 0 59 minute (omega arith) (omega (arith, m)) (omega (arith, m)) (omega arith) (omega (arith, m));
  seconds = padded_field 2 0 60 second (omega arith) (omega (arith, s)) (omega (arith, s)) (omega arith) (omega (arith, s));
  joined = refl;
}

moment_joins : (a b c d e f : List ℕ)
    → ((a ++ (codes ", " ++ (b ++ (codes " " ++ (c ++ (codes " " ++ d)))))) ++ (codes " " ++ e)) ++ f
    ≡ a ++ (codes ", " ++ (b ++ (codes " " ++ (c ++ (codes " " ++ (d ++ (codes " " ++ (e ++ f))))))))
moment_joins a b c d e f = simp append_assoc refl

-- the name of the day, which is there
named_by : (name : Option ℕ) (t : DateTime) → IsSome name → IfSome name (λ w. pos w ≡ after_monday (number_of_day t))
    → (weekday : ℕ) × (weekday < 7) × (name ≡ Some weekday) × (weekday_text name ≡ day_name weekday)
named_by None t some h = absurd cc
named_by (Some w) t some h = (w, weekday_small w (number_of_day t) h, refl, refl)

pub http_spelled : (t : DateTime) → IsRealMoment t → IsSome t.weekday → t.offset ≡ pos 0 → IsHttpDate (http_date_text t) t
unfolding moment_text named_date_text
http_spelled t r some utc =
    let name = named_by t.weekday t some r.name in
    let day = most_days t r in
    let date = r.day in
    let year = r.year in
    let clock = full_clock_text t.hour t.minute t.second in
    let joined =
    moment_joins (weekday_text t.weekday) (padded_digits 2 t.day) (month_name t.month) (padded_digits 4 t.year) clock (codes " GMT") in
    inl (record {
      name = weekday_text t.weekday;
      day_text = padded_digits 2 t.day;
      month = month_name t.month;
      year_text = padded_digits 4 t.year;
      clock = clock;
      weekday = name.0;
      names = (name.1, name.3);
      days = padded_field 2 1 31 t.day (omega arith) (omega (arith, day)) (omega (arith, day)) date.2 day;
      months = (date.0, date.1, refl);
      years = padded_field 4 0 9999 t.year (omega arith) (omega (arith, year)) (omega (arith, year)) (omega arith) year;
      clocks = clock_spelled t.hour t.minute t.second r.hour r.minute r.second;
      named = name.2;
      utc = utc;
      joined = joined;
    })

zone_spelled : IsZone (codes "+0000") (pos 0)
zone_spelled = inl (record {
  negative = false;
  hour_text = codes "00";
  minute_text = codes "00";
  hour = 0;
  minute = 0;
  hours = record { long = refl; digits = (omega arith, (omega arith, tt)); number = refl; least = omega arith; most = omega arith };
  minutes = record { long = refl; digits = (omega arith, (omega arith, tt)); number = refl; least = omega arith; most = omega arith };
  joined = refl;
  value = refl;
})

mail_joins : (a b c d e : List ℕ)
    → ((a ++ (codes ", " ++ (b ++ (codes " " ++ (c ++ (codes " " ++ d)))))) ++ (codes " " ++ e)) ++ codes " +0000"
    ≡ (a ++ codes ", ") ++ (b ++ (codes " " ++ (c ++ (codes " " ++ (d ++ (codes " " ++ (e ++ (codes " " ++ (codes "+0000" ++ [])))))))))
mail_joins a b c d e = simp append_assoc refl

pub mail_spelled : (t : DateTime) → IsRealMoment t → IsSome t.weekday → t.offset ≡ pos 0 → IsMailDate (mail_date_text t) t
unfolding moment_text named_date_text
mail_spelled t r some utc =
    let name = named_by t.weekday t some r.name in
    let day = most_days t r in
    let date = r.day in
    let year = r.year in
    let clock = full_clock_text t.hour t.minute t.second in
    let joined = mail_joins (weekday_text t.weekday) (padded_digits 2 t.day) (month_name t.month) (padded_digits 4 t.year) clock in
    let P : ℤ → Type 0 = λ z. IsZone (codes "+0000") z in
    record {
      front = weekday_text t.weekday ++ codes ", ";
      day_text = padded_digits 2 t.day;
      month = month_name t.month;
      year_text = padded_digits 4 t.year;
      clock = clock;
      zone = codes "+0000";
      comment = [];
      names = inr (weekday_text t.weekday, name.0, (name.1, name.3), name.2, refl);
      days = inl (padded_field 2 1 31 t.day (omega arith) (omega (arith, day)) (omega (arith, day)) date.2 day);
      months = (date.0, date.1, refl);
      years = padded_field 4 0 9999 t.year (omega arith) (omega (arith, year)) (omega (arith, year)) (omega arith) year;
      clocks = inl (clock_spelled t.hour t.minute t.second r.hour r.minute r.second);
      zones = subst P (sym utc) zone_spelled;
      comments = inl refl;
      joined = joined;
    }

-- ---- the moment that was written

pub moment_back : (Spells : List ℕ → DateTime → Type 0) → ((text : List ℕ) (a b : DateTime) → Spells text a → Spells text b → a ≡ b)
    → (first : ℕ) (seconds : ℤ) (t : DateTime) (text : List ℕ) (answer : Result ℤ DateError) → Spells text t → IsNamedDateAt first seconds t
    → IsRead Spells first text answer → answer ≡ Ok seconds
moment_back Spells one first seconds t text (Ok s) spelled at (u, is, real, least, value) =
    ap Ok (value ∙ ap seconds_of (one text u t is spelled) ∙ at.same)
moment_back Spells one first seconds t text (Err Syntax) spelled at none = absurd (none t spelled)
moment_back Spells one first seconds t text (Err NoSuchMoment) spelled at (u, is, unreal) =
    absurd (unreal (subst IsRealMoment (one text t u spelled is) at.real))
moment_back Spells one first seconds t text (Err Range) spelled at (u, is, real, less) =
    let year = ap (λ (v : DateTime). v.year) (one text t u spelled is) in
    let least = at.least in
    absurd (omega (arith, less, least, year))
