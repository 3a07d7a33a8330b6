-- Dates of HTTP are read: what is read is one, and each is read.
use Rattle.std.proofs.Common.{◌≡◌, ℕ, ◌<◌, ◌==◌, Bool, true, false, cond, ℤ, pos, List, [], ◌∷◌, ◌++◌, codes, Option, Some, None, refl, sym}
use Rattle.std.proofs.Common.{◌∙◌, ap, subst, inl, inr, arith}
use Rattle.std.specs.Char.{digit_value}
use Rattle.std.proofs.lemmas.Bool.{and_parts, eqb-true}
use Rattle.std.proofs.lemmas.Bool.Decides.{nat_tests}
use Rattle.std.proofs.lemmas.Option.{cond_some, option_and_then_some}
use Rattle.std.proofs.lemmas.Str.Parse.{digit_from_value}
use Rattle.scan_core.specs.Fields.{IsField}
use Rattle.internet_dates.specs.Names.{IsDayName}
use Rattle.internet_dates.specs.HttpDate.{IsFixdate, IsPaddedDay, IsAsctimeDate, IsHttpDate}
use Rattle.internet_dates.specs.declared.date_time.DateTime.{DateTime}
use Rattle.internet_dates.specs.inside.Reading.{read_mark, two_number, clock_made, made, is_text, read_fixdate, read_year, tens}
use Rattle.internet_dates.specs.inside.Reading.{read_padded, read_padded_day, read_asctime, read_behind_name, read_http_date}
use Rattle.internet_dates.proofs.Readers.{Sound, Exact, mark_sound, rest_parts, behind_sound, behind_exact, two_from, two_is, two_bytes}
use Rattle.internet_dates.proofs.Readers.{one_from, one_is, one_byte, pair_sound, pair_exact, year_sound, year_exact}
use Rattle.internet_dates.proofs.NameFacts.{weekday_sound, weekday_exact, month_sound, month_exact}
use Rattle.internet_dates.proofs.ClockFacts.{clock_sound, clock_exact}

pub text_is : (end bytes : List ℕ) → is_text end bytes ≡ true → bytes ≡ end
text_is [] [] h = refl
text_is [] (b ∷ bs) h = absurd cc
text_is (e ∷ es) [] h = absurd cc
text_is (e ∷ es) (b ∷ bs) h =
    let parts = and_parts (b == e) (is_text es bs) h in
    rw (eqb-true b e parts.0, text_is es bs parts.1) refl

-- the fields are those of a value
pub made_is : (t : DateTime) (w : Option ℕ) (z : ℤ) → t.weekday ≡ w → t.offset ≡ z
    → made w t.year t.month t.day (clock_made t.hour t.minute t.second) z ≡ t
made_is t w z e f = rw (sym e, sym f) refl

pub no_blank : (b : ℕ) → digit_value b < 10 → (b == 32) ≡ false
no_blank b d = let r = digit_from_value b d in grind (arith, nat_tests)

-- ---- IMF-fixdate

fixdate_exact : (text : List ℕ) (t : DateTime) → IsFixdate text t → read_http_date text ≡ Some t
unfolding read_http_date read_fixdate
fixdate_exact text t d =
    let end : List ℕ = codes " GMT" in
    let clocks : List ℕ = 32 ∷ (d.clock ++ end) in
    let years : List ℕ = 32 ∷ (d.year_text ++ clocks) in
    let months : List ℕ = 32 ∷ (d.month ++ years) in
    let name = weekday_exact d.name (44 ∷ (32 ∷ (d.day_text ++ months))) d.weekday d.names in
    let day = pair_exact 32 1 31 d.day_text months t.day d.days in
    let month = month_exact d.month years t.month d.months in
    let year = year_exact d.year_text clocks t.year d.years in
    let clock = clock_exact d.clock end t.hour t.minute t.second d.clocks in
    rw (d.joined, name, day, month, year, clock) (ap (λ (x : DateTime). Some x) (made_is t (Some d.weekday) (pos 0) d.named d.utc))

fixdate_sound : (weekday : ℕ) (name bytes : List ℕ) (t : DateTime) → IsDayName name weekday → read_fixdate weekday bytes ≡ Some t
    → IsFixdate (name ++ (44 ∷ bytes)) t
unfolding read_fixdate
fixdate_sound weekday name bytes t named h =
    option_and_then_some _ _ _ h (λ d found_day a. option_and_then_some _ _ _ a
    (λ m found_month b. option_and_then_some _ _ _ b (λ y found_year e. option_and_then_some _ _ _ e (λ c found_clock ready.
    let day = pair_sound 32 1 31 bytes d.1 d.0 found_day in
    let month = month_sound d.1 m.1 m.0 found_month in
    let year = year_sound m.1 y.1 y.0 found_year in
    let clock = clock_sound y.1 c.1 c.0 found_clock in
    let last = cond_some (is_text (codes " GMT") c.1) (made (Some weekday) y.0 m.0 d.0 c.0 (pos 0)) t ready in
    let end = text_is (codes " GMT") c.1 last.0 in
    let clocks : y.1 ≡ 32 ∷ (clock.0 ++ codes " GMT") = clock.2 ∙ ap (λ (l : List ℕ). 32 ∷ (clock.0 ++ l)) end in
    let years : m.1 ≡ 32 ∷ (year.0 ++ (32 ∷ (clock.0 ++ codes " GMT"))) = year.2 ∙ ap (λ (l : List ℕ). 32 ∷ (year.0 ++ l)) clocks in
    let months : d.1 ≡ 32 ∷ (month.0 ++ (32 ∷ (year.0 ++ (32 ∷ (clock.0 ++ codes " GMT"))))) =
    month.2 ∙ ap (λ (l : List ℕ). 32 ∷ (month.0 ++ l)) years in
    let whole : bytes ≡ 32 ∷ (day.0 ++ (32 ∷ (month.0 ++ (32 ∷ (year.0 ++ (32 ∷ (clock.0 ++ codes " GMT"))))))) =
    day.2 ∙ ap (λ (l : List ℕ). 32 ∷ (day.0 ++ l)) months in
    let P : DateTime → Type 0 = λ v. IsFixdate (name ++ (44 ∷ bytes)) v in
    let is : P (made (Some weekday) y.0 m.0 d.0 c.0 (pos 0)) = record {
      name = name;
      day_text = day.0;
      month = month.0;
      year_text = year.0;
      clock = clock.0;
      weekday = weekday;
      names = named;
      days = day.1;
      months = month.1;
      years = year.1;
      clocks = clock.1;
      named = refl;
      utc = refl;
      joined = ap (λ (l : List ℕ). name ++ (44 ∷ l)) whole;
    } in
    subst P last.1 is))))

-- ---- the day of asctime's form

padded_if : (t : Bool) (a b n : ℕ) → (a == 32) ≡ t → two_number 1 31 (cond t 48 a) b ≡ Some n → IsPaddedDay (a ∷ b ∷ []) n
padded_if true a b n e h =
    let here = eqb-true a 32 e in
    rw here (inr (b ∷ [], one_from 1 31 b n h (omega arith), refl))
padded_if false a b n e h = inl (two_from 1 31 a b n h)

padded_sound : Sound IsPaddedDay read_padded
padded_sound [] rest value h = absurd cc
padded_sound (a ∷ []) rest value h = absurd cc
padded_sound (a ∷ b ∷ bs) rest value h =
    let parts = rest_parts bs rest (two_number 1 31 (tens a) b) value h in
    (a ∷ b ∷ [], padded_if (a == 32) a b value refl parts.0, ap (λ (l : List ℕ). a ∷ b ∷ l) parts.1)

padded_exact : Exact IsPaddedDay read_padded
padded_exact text rest value (inl f) =
    let bytes = two_bytes text f.long in
    let P : List ℕ → Type 0 = λ l. IsField 2 1 31 l value in
    let field : IsField 2 1 31 (bytes.0 ∷ bytes.1 ∷ []) value = subst P bytes.2 f in
    let found = two_is 1 31 bytes.0 bytes.1 value field in
    let digits = field.digits in
    rw (bytes.2, no_blank bytes.0 digits.0, found) refl
padded_exact text rest value (inr one) =
    let f = one.1 in
    let byte = one_byte one.0 f.long in
    let P : List ℕ → Type 0 = λ l. IsField 1 1 9 l value in
    let found = one_is 31 byte.0 value (omega arith) (subst P byte.1 f) in
    rw (one.2, byte.1, found) refl

padded_day_exact : (text rest : List ℕ) (value : ℕ) → IsPaddedDay text value → read_padded_day (32 ∷ (text ++ rest)) ≡ Some (value, rest)
unfolding read_padded_day
padded_day_exact text rest value is = behind_exact 32 IsPaddedDay read_padded padded_exact text rest value is

padded_day_sound : (bytes rest : List ℕ) (value : ℕ) → read_padded_day bytes ≡ Some (value, rest)
    → (text : List ℕ) × IsPaddedDay text value × (bytes ≡ 32 ∷ (text ++ rest))
unfolding read_padded_day
padded_day_sound bytes rest value h = behind_sound 32 IsPaddedDay read_padded padded_sound bytes rest value h

-- ---- asctime's form

ended : (l : List ℕ) → l ++ [] ≡ l
ended [] = refl
ended (b ∷ bs) = ap (λ (l : List ℕ). b ∷ l) (ended bs)

asctime_exact : (text : List ℕ) (t : DateTime) → IsAsctimeDate text t → read_http_date text ≡ Some t
unfolding read_http_date read_asctime
asctime_exact text t d =
    let years : List ℕ = 32 ∷ d.year_text in
    let clocks : List ℕ = 32 ∷ (d.clock ++ years) in
    let days : List ℕ = 32 ∷ (d.day_text ++ clocks) in
    let name = weekday_exact d.name (32 ∷ (d.month ++ days)) d.weekday d.names in
    let month = month_exact d.month days t.month d.months in
    let day = padded_day_exact d.day_text clocks t.day d.days in
    let clock = clock_exact d.clock years t.hour t.minute t.second d.clocks in
    let year : read_year years ≡ Some (t.year, []) =
    ap (λ (l : List ℕ). read_year (32 ∷ l)) (sym (ended d.year_text)) ∙ year_exact d.year_text [] t.year d.years in
    rw (d.joined, name, month, day, clock, year) (ap (λ (x : DateTime). Some x) (made_is t (Some d.weekday) (pos 0) d.named d.utc))

asctime_sound : (weekday : ℕ) (name bytes : List ℕ) (t : DateTime) → IsDayName name weekday → read_asctime weekday bytes ≡ Some t
    → IsAsctimeDate (name ++ bytes) t
unfolding read_asctime
asctime_sound weekday name bytes t named h =
    option_and_then_some _ _ _ h (λ m found_month a. option_and_then_some _ _ _ a
    (λ d found_day b. option_and_then_some _ _ _ b (λ c found_clock e. option_and_then_some _ _ _ e (λ y found_year ready.
    let month = month_sound bytes m.1 m.0 found_month in
    let day = padded_day_sound m.1 d.1 d.0 found_day in
    let clock = clock_sound d.1 c.1 c.0 found_clock in
    let year = year_sound c.1 y.1 y.0 found_year in
    let last = cond_some (is_text [] y.1) (made (Some weekday) y.0 m.0 d.0 c.0 (pos 0)) t ready in
    let end = text_is [] y.1 last.0 in
    let years : c.1 ≡ 32 ∷ year.0 = year.2 ∙ ap (λ (l : List ℕ). 32 ∷ (year.0 ++ l)) end ∙ ap (λ (l : List ℕ). 32 ∷ l) (ended year.0) in
    let clocks : d.1 ≡ 32 ∷ (clock.0 ++ (32 ∷ year.0)) = clock.2 ∙ ap (λ (l : List ℕ). 32 ∷ (clock.0 ++ l)) years in
    let days : m.1 ≡ 32 ∷ (day.0 ++ (32 ∷ (clock.0 ++ (32 ∷ year.0)))) = day.2 ∙ ap (λ (l : List ℕ). 32 ∷ (day.0 ++ l)) clocks in
    let whole : bytes ≡ 32 ∷ (month.0 ++ (32 ∷ (day.0 ++ (32 ∷ (clock.0 ++ (32 ∷ year.0)))))) =
    month.2 ∙ ap (λ (l : List ℕ). 32 ∷ (month.0 ++ l)) days in
    let P : DateTime → Type 0 = λ v. IsAsctimeDate (name ++ bytes) v in
    let is : P (made (Some weekday) y.0 m.0 d.0 c.0 (pos 0)) = record {
      name = name;
      month = month.0;
      day_text = day.0;
      clock = clock.0;
      year_text = year.0;
      weekday = weekday;
      names = named;
      months = month.1;
      days = day.1;
      clocks = clock.1;
      years = year.1;
      named = refl;
      utc = refl;
      joined = ap (λ (l : List ℕ). name ++ l) whole;
    } in
    subst P last.1 is))))

-- ---- either form

pub http_exact : (text : List ℕ) (t : DateTime) → IsHttpDate text t → read_http_date text ≡ Some t
http_exact text t (inl d) = fixdate_exact text t d
http_exact text t (inr d) = asctime_exact text t d

by_comma : (weekday : ℕ) (name bytes : List ℕ) (comma : Option (List ℕ)) (t : DateTime) → IsDayName name weekday
    → read_mark 44 bytes ≡ comma → read_behind_name weekday bytes comma ≡ Some t → IsHttpDate (name ++ bytes) t
by_comma weekday name bytes (Some rest) t named found h =
    let P : List ℕ → Type 0 = λ l. IsFixdate (name ++ l) t in
    inl (subst P (sym (mark_sound 44 bytes rest found)) (fixdate_sound weekday name rest t named h))
by_comma weekday name bytes None t named found h = inr (asctime_sound weekday name bytes t named h)

pub http_sound : (text : List ℕ) (t : DateTime) → read_http_date text ≡ Some t → IsHttpDate text t
unfolding read_http_date
http_sound text t h =
    option_and_then_some _ _ _ h (λ w found body.
    let name = weekday_sound text w.1 w.0 found in
    let P : List ℕ → Type 0 = λ l. IsHttpDate l t in
    subst P (sym name.2) (by_comma w.0 name.0 w.1 (read_mark 44 w.1) t name.1 refl body))

pub one_http_date : (text : List ℕ) (a b : DateTime) → IsHttpDate text a → IsHttpDate text b → a ≡ b
one_http_date text a b h k = let same : Some a ≡ Some b = sym (http_exact text a h) ∙ http_exact text b k in cc
