-- Dates of mail are read: what is read is one, and each is read.
use Rattle.std.proofs.Common.{◌≡◌, ℕ, ◌+◌, ◌*◌, ◌⊎◌, ◌||◌, ◌==◌, Bool, true, false, cond, ℤ, pos, List, [], ◌∷◌, ◌++◌, codes, get_or}
use Rattle.std.proofs.Common.{Option, Some, None, refl, sym, ◌∙◌, ap, subst, append_assoc, inl, inr, arith}
use Rattle.std.specs.Prelude.{option_map}
use Rattle.std.proofs.lemmas.Bool.{eqb-true}
use Rattle.std.proofs.lemmas.Option.{cond_some, some_pair_parts, option_and_then_some}
use Rattle.scan_core.specs.Digits.{AreDigits}
use Rattle.scan_core.specs.Fields.{IsField}
use Rattle.scan_core.specs.Fronts.{leading, behind, BeginsWithout}
use Rattle.scan_core.specs.Number.{sign_text}
use Rattle.scan_core.specs.Shares.{signed}
use Rattle.scan_core.proofs.DigitFacts.{test_from_digit}
use Rattle.scan_core.proofs.FrontFacts.{behind_of, leading_passes, leading_and_behind}
use Rattle.internet_dates.specs.Names.{day_names, zone_names, IsZoneName}
use Rattle.internet_dates.specs.MailDate.{IsNamedFront, IsNumericZone, IsZone, is_comment_byte, IsComment, IsMailDate}
use Rattle.internet_dates.specs.declared.date_time.DateTime.{DateTime}
use Rattle.internet_dates.specs.inside.Reading.{two_number, with_rest, read_name, made, is_text, begins_with_digit, read_named, read_front}
use Rattle.internet_dates.specs.inside.Reading.{read_day, read_numeric, read_ut, minutes_of, read_zone_name, ut_or_name, read_zone}
use Rattle.internet_dates.specs.inside.Reading.{read_spaced_zone, read_opening, is_closed, is_comment, read_mail_date}
use Rattle.internet_dates.proofs.Readers.{Sound, Exact, mark_sound, rest_parts, behind_sound, behind_exact, two_from, two_is, two_bytes}
use Rattle.internet_dates.proofs.Readers.{one_from, one_is, one_byte, two_sound, two_exact, year_sound, year_exact}
use Rattle.internet_dates.proofs.NameFacts.{AllBelow, below, name_sound, weekday_sound, weekday_exact, month_sound, month_exact}
use Rattle.internet_dates.proofs.ClockFacts.{mail_clock_sound, mail_clock_exact}
use Rattle.internet_dates.proofs.HttpReading.{text_is, made_is, no_blank}

-- ---- the name of a day in front

abbrev IsNoDigit : ℕ → Type 0
IsNoDigit k = (rest : List ℕ) → begins_with_digit (get_or day_names k [] ++ rest) ≡ false

no_digits : AllBelow IsNoDigit 7
no_digits = (λ r. refl, (λ r. refl, (λ r. refl, (λ r. refl, (λ r. refl, (λ r. refl, (λ r. refl, tt)))))))

name_joins : (name rest : List ℕ) → (name ++ codes ", ") ++ rest ≡ name ++ (44 ∷ (32 ∷ rest))
name_joins name rest = append_assoc name (codes ", ") rest

front_exact : (text rest : List ℕ) (named : Option ℕ) → IsNamedFront text named → begins_with_digit rest ≡ true
    → read_front (text ++ rest) ≡ Some (named, rest)
unfolding read_front read_named
front_exact text rest named (inl none) digit = rw (none.0, none.1, digit) refl
front_exact text rest named (inr (name, weekday, is, value, joined)) digit =
    let split : text ++ rest ≡ name ++ (44 ∷ (32 ∷ rest)) = ap (λ (l : List ℕ). l ++ rest) joined ∙ name_joins name rest in
    let letter : begins_with_digit (name ++ (44 ∷ (32 ∷ rest))) ≡ false =
    rw is.1 (below IsNoDigit 7 no_digits weekday is.0 (44 ∷ (32 ∷ rest))) in
    let found = weekday_exact name (44 ∷ (32 ∷ rest)) weekday is in
    rw (split, letter, found, value) refl

named_sound : (bytes rest : List ℕ) (named : Option ℕ) → read_named bytes ≡ Some (named, rest)
    → (text : List ℕ) × IsNamedFront text named × (bytes ≡ text ++ rest)
unfolding read_named
named_sound bytes rest named h =
    option_and_then_some _ _ _ h (λ w found a. option_and_then_some _ _ _ a
    (λ comma found_comma b. option_and_then_some _ _ _ b (λ last found_blank ready.
    let name = weekday_sound bytes w.1 w.0 found in
    let parts = some_pair_parts _ _ _ _ ready in
    let one = mark_sound 44 w.1 comma found_comma in
    let two = mark_sound 32 comma last found_blank in
    let split : bytes ≡ (name.0 ++ codes ", ") ++ rest =
    name.2 ∙ ap (λ (l : List ℕ). name.0 ++ l) (one ∙ ap (λ (l : List ℕ). 44 ∷ l) (two ∙ ap (λ (l : List ℕ). 32 ∷ l) parts.1))
    ∙ sym (name_joins name.0 rest) in
    (name.0 ++ codes ", ", inr (name.0, w.0, name.1, sym parts.0, refl), split))))

front_if : (t : Bool) (bytes rest : List ℕ) (named : Option ℕ) → cond t (Some (None, bytes)) (read_named bytes) ≡ Some (named, rest)
    → (text : List ℕ) × IsNamedFront text named × (bytes ≡ text ++ rest)
front_if true bytes rest named h = let parts = some_pair_parts _ _ _ _ h in ([], inl (refl, sym parts.0), parts.1)
front_if false bytes rest named h = named_sound bytes rest named h

front_sound : (bytes rest : List ℕ) (named : Option ℕ) → read_front bytes ≡ Some (named, rest)
    → (text : List ℕ) × IsNamedFront text named × (bytes ≡ text ++ rest)
unfolding read_front
front_sound bytes rest named h = front_if (begins_with_digit bytes) bytes rest named h

-- ---- the day

abbrev IsDay : List ℕ → ℕ → Type 0
IsDay text day = IsField 2 1 31 text day ⊎ IsField 1 1 9 text day

day_first : (text rest : List ℕ) (day : ℕ) → IsDay text day → begins_with_digit (text ++ rest) ≡ true
day_first text rest day (inl f) =
    let bytes = two_bytes text f.long in
    let digits = subst AreDigits bytes.2 f.digits in
    rw bytes.2 (test_from_digit bytes.0 digits.0)
day_first text rest day (inr f) =
    let byte = one_byte text f.long in
    let digits = subst AreDigits byte.1 f.digits in
    rw byte.1 (test_from_digit byte.0 digits.0)

day_exact : (text rest : List ℕ) (day : ℕ) → IsDay text day → read_day (text ++ (32 ∷ rest)) ≡ Some (day, 32 ∷ rest)
day_exact text rest day (inl f) =
    let bytes = two_bytes text f.long in
    let P : List ℕ → Type 0 = λ l. IsField 2 1 31 l day in
    let field : IsField 2 1 31 (bytes.0 ∷ bytes.1 ∷ []) day = subst P bytes.2 f in
    let found = two_is 1 31 bytes.0 bytes.1 day field in
    let digits = field.digits in
    rw (bytes.2, no_blank bytes.1 digits.1.0, found) refl
day_exact text rest day (inr f) =
    let byte = one_byte text f.long in
    let P : List ℕ → Type 0 = λ l. IsField 1 1 9 l day in
    let found = one_is 31 byte.0 day (omega arith) (subst P byte.1 f) in
    rw (byte.1, found) refl

day_if : (t : Bool) (a b : ℕ) (bs rest : List ℕ) (day : ℕ)
    → cond t (with_rest (b ∷ bs) (two_number 1 31 48 a)) (with_rest bs (two_number 1 31 a b)) ≡ Some (day, rest)
    → (text : List ℕ) × IsDay text day × (a ∷ b ∷ bs ≡ text ++ rest)
day_if true a b bs rest day h =
    let parts = rest_parts (b ∷ bs) rest (two_number 1 31 48 a) day h in
    (a ∷ [], inr (one_from 1 31 a day parts.0 (omega arith)), ap (λ (l : List ℕ). a ∷ l) parts.1)
day_if false a b bs rest day h =
    let parts = rest_parts bs rest (two_number 1 31 a b) day h in
    (a ∷ b ∷ [], inl (two_from 1 31 a b day parts.0), ap (λ (l : List ℕ). a ∷ b ∷ l) parts.1)

day_sound : (bytes rest : List ℕ) (day : ℕ) → read_day bytes ≡ Some (day, rest) → (text : List ℕ) × IsDay text day × (bytes ≡ text ++ rest)
day_sound [] rest day h = absurd cc
day_sound (a ∷ []) rest day h = absurd cc
day_sound (a ∷ b ∷ bs) rest day h = day_if (b == 32) a b bs rest day h

-- ---- zones

zone_joins : (h m rest : List ℕ) → (h ++ m) ++ rest ≡ h ++ (m ++ rest)
zone_joins h m rest = append_assoc h m rest

numeric_exact : (negative : Bool) (h m rest : List ℕ) (hour minute : ℕ) → IsField 2 0 24 h hour → IsField 2 0 59 m minute
    → read_numeric negative ((h ++ m) ++ rest) ≡ Some (signed negative (60 * hour + minute), rest)
unfolding read_numeric
numeric_exact negative h m rest hour minute f g =
    rw (zone_joins h m rest, two_exact 0 24 h (m ++ rest) hour f, two_exact 0 59 m rest minute g) refl

numeric_sound : (negative : Bool) (bytes rest : List ℕ) (offset : ℤ) → read_numeric negative bytes ≡ Some (offset, rest)
    → (text : List ℕ) × IsNumericZone (sign_text negative ++ text) offset × (bytes ≡ text ++ rest)
unfolding read_numeric
numeric_sound negative bytes rest offset h =
    option_and_then_some _ _ _ h (λ x found a. option_and_then_some _ _ _ a (λ y found_minute ready.
    let hours = two_sound 0 24 bytes x.1 x.0 found in
    let minutes = two_sound 0 59 x.1 y.1 y.0 found_minute in
    let parts = some_pair_parts _ _ _ _ ready in
    let split : bytes ≡ (hours.0 ++ minutes.0) ++ rest =
    hours.2 ∙ ap (λ (l : List ℕ). hours.0 ++ l) (minutes.2 ∙ ap (λ (l : List ℕ). minutes.0 ++ l) parts.1)
    ∙ sym (zone_joins hours.0 minutes.0 rest) in (
      hours.0 ++ minutes.0,
      record {
        negative = negative;
        hour_text = hours.0;
        minute_text = minutes.0;
        hour = x.0;
        minute = y.0;
        hours = hours.1;
        minutes = minutes.1;
        joined = refl;
        value = sym parts.0;
      },
      split,
    )))

signed_zone : (negative : Bool) (h m rest : List ℕ) (hour minute : ℕ) → IsField 2 0 24 h hour → IsField 2 0 59 m minute
    → read_zone ((sign_text negative ++ (h ++ m)) ++ rest) ≡ Some (signed negative (60 * hour + minute), rest)
signed_zone true h m rest hour minute f g = numeric_exact true h m rest hour minute f g
signed_zone false h m rest hour minute f g = numeric_exact false h m rest hour minute f g

ut_exact : (rest : List ℕ) → read_zone (codes "UT" ++ rest) ≡ Some (pos 0, rest)
unfolding read_ut
ut_exact rest = refl

abbrev IsZoneFound : ℕ → Type 0
IsZoneFound k = (rest : List ℕ) → read_zone (get_or zone_names k [] ++ rest) ≡ Some (minutes_of k, rest)

zones_found : AllBelow IsZoneFound 9
unfolding read_ut read_zone_name
zones_found = (λ r. refl, (λ r. refl, (λ r. refl, (λ r. refl, (λ r. refl, (λ r. refl, (λ r. refl, (λ r. refl, (λ r. refl, tt)))))))))

zone_exact : Exact IsZone read_zone
zone_exact text rest offset (inl z) = rw (z.joined, z.value) (signed_zone z.negative z.hour_text z.minute_text rest z.hour z.minute z.hours
    z.minutes)
zone_exact text rest offset (inr (inl ut)) = rw (ut.0, ut.1) (ut_exact rest)
zone_exact text rest offset (inr (inr (n, within, name, value))) = rw (name, value) (below IsZoneFound 9 zones_found n within rest)

mapped : (o : Option (ℕ × List ℕ)) (offset : ℤ) (rest : List ℕ)
    → option_map {U = ℤ × List ℕ} (λ n. (minutes_of n.0, n.1)) o ≡ Some (offset, rest)
    → (k : ℕ) × (o ≡ Some (k, rest)) × (offset ≡ minutes_of k)
mapped None offset rest h = absurd cc
mapped (Some n) offset rest h = let parts = some_pair_parts _ _ _ _ h in (n.0, ap (λ (l : List ℕ). Some (n.0, l)) parts.1, sym parts.0)

zone_name_sound : Sound IsZoneName read_zone_name
unfolding read_zone_name
zone_name_sound bytes rest offset h =
    let m = mapped (read_name zone_names 0 bytes) offset rest h in
    let s = name_sound zone_names 0 refl bytes rest m.0 m.1 in
    let n = s.1 in
    let number = n.2 in
    let same : m.0 ≡ n.0 = omega (arith, number) in
    (s.0, (n.0, n.1, n.3, m.2 ∙ ap minutes_of same), s.2)

ut_sound : (bytes rest : List ℕ) → read_ut bytes ≡ Some rest → bytes ≡ 85 ∷ 84 ∷ rest
unfolding read_ut
ut_sound bytes rest h =
    option_and_then_some _ _ _ h (λ later found body. mark_sound 85 bytes later found
    ∙ ap (λ (l : List ℕ). 85 ∷ l) (mark_sound 84 later rest body))

ut_or : (bytes rest : List ℕ) (offset : ℤ) (found : Option (List ℕ)) → read_ut bytes ≡ found → ut_or_name bytes found ≡ Some (offset, rest)
    → (text : List ℕ) × IsZone text offset × (bytes ≡ text ++ rest)
ut_or bytes rest offset (Some r) found h =
    let parts = some_pair_parts _ _ _ _ h in
    (codes "UT", inr (inl (refl, sym parts.0)), ut_sound bytes r found ∙ ap (λ (l : List ℕ). 85 ∷ 84 ∷ l) parts.1)
ut_or bytes rest offset None found h = let s = zone_name_sound bytes rest offset h in (s.0, inr (inr s.1), s.2)

zone_if : (plus minus : Bool) (b : ℕ) (bs rest : List ℕ) (offset : ℤ) → (plus ≡ true → b ≡ 43) → (minus ≡ true → b ≡ 45)
    → cond plus (read_numeric false bs) (cond minus (read_numeric true bs) (ut_or_name (b ∷ bs) (read_ut (b ∷ bs)))) ≡ Some (offset, rest)
    → (text : List ℕ) × IsZone text offset × (b ∷ bs ≡ text ++ rest)
zone_if true minus b bs rest offset is_plus is_minus h =
    let s = numeric_sound false bs rest offset h in
    (43 ∷ s.0, inl s.1, rw (is_plus refl) (ap (λ (l : List ℕ). 43 ∷ l) s.2))
zone_if false true b bs rest offset is_plus is_minus h =
    let s = numeric_sound true bs rest offset h in
    (45 ∷ s.0, inl s.1, rw (is_minus refl) (ap (λ (l : List ℕ). 45 ∷ l) s.2))
zone_if false false b bs rest offset is_plus is_minus h = ut_or (b ∷ bs) rest offset (read_ut (b ∷ bs)) refl h

zone_sound : Sound IsZone read_zone
zone_sound [] rest offset h = absurd cc
zone_sound (b ∷ bs) rest offset h = zone_if (b == 43) (b == 45) b bs rest offset (eqb-true b 43) (eqb-true b 45) h

spaced_zone_exact : (text rest : List ℕ) (offset : ℤ) → IsZone text offset → read_spaced_zone (32 ∷ (text ++ rest)) ≡ Some (offset, rest)
unfolding read_spaced_zone
spaced_zone_exact text rest offset is = behind_exact 32 IsZone read_zone zone_exact text rest offset is

spaced_zone_sound : (bytes rest : List ℕ) (offset : ℤ) → read_spaced_zone bytes ≡ Some (offset, rest)
    → (text : List ℕ) × IsZone text offset × (bytes ≡ 32 ∷ (text ++ rest))
unfolding read_spaced_zone
spaced_zone_sound bytes rest offset h = behind_sound 32 IsZone read_zone zone_sound bytes rest offset h

-- ---- comments

comment_exact : (text : List ℕ) → IsComment text → is_comment text ≡ true
unfolding is_comment read_opening
comment_exact text (inl none) = rw none refl
comment_exact text (inr (inner, all, joined)) =
    let end : BeginsWithout is_comment_byte (codes ")") = refl in
    let rest : behind is_comment_byte (inner ++ codes ")") ≡ codes ")" = behind_of is_comment_byte inner (codes ")") all end in
    rw (joined, rest) refl

opening_sound : (text inner : List ℕ) → read_opening text ≡ Some inner → text ≡ 32 ∷ 40 ∷ inner
unfolding read_opening
opening_sound text inner h =
    option_and_then_some _ _ _ h (λ later found body. mark_sound 32 text later found
    ∙ ap (λ (l : List ℕ). 32 ∷ l) (mark_sound 40 later inner body))

closed_sound : (text : List ℕ) (found : Option (List ℕ)) → read_opening text ≡ found → is_closed found ≡ true → IsComment text
closed_sound text None found h = absurd cc
closed_sound text (Some inner) found h =
    let rest = text_is (codes ")") (behind is_comment_byte inner) h in
    let front : List ℕ = leading is_comment_byte inner in
    let whole : inner ≡ front ++ codes ")" = sym (leading_and_behind is_comment_byte inner) ∙ ap (λ (l : List ℕ). front ++ l) rest in
    inr (front, leading_passes is_comment_byte inner, opening_sound text inner found ∙ ap (λ (l : List ℕ). 32 ∷ 40 ∷ l) whole)

one_of : (a b : Bool) → (a || b) ≡ true → (a ≡ true) ⊎ (b ≡ true)
one_of true b h = inl refl
one_of false b h = inr h

comment_sound : (text : List ℕ) → is_comment text ≡ true → IsComment text
unfolding is_comment
comment_sound text h =
    elim (one_of (is_text [] text) (is_closed (read_opening text)) h) [
      | inl none ↦ inl (text_is [] text none)
      | inr some ↦ closed_sound text (read_opening text) refl some
    ]

-- ---- the whole date

pub mail_exact : (text : List ℕ) (t : DateTime) → IsMailDate text t → read_mail_date text ≡ Some t
unfolding read_mail_date
mail_exact text t d =
    let zones : List ℕ = 32 ∷ (d.zone ++ d.comment) in
    let clocks : List ℕ = 32 ∷ (d.clock ++ zones) in
    let years : List ℕ = 32 ∷ (d.year_text ++ clocks) in
    let months : List ℕ = 32 ∷ (d.month ++ years) in
    let front = front_exact d.front (d.day_text ++ months) t.weekday d.names (day_first d.day_text months t.day d.days) in
    let day = day_exact d.day_text (d.month ++ years) t.day d.days in
    let month = month_exact d.month years t.month d.months in
    let year = year_exact d.year_text clocks t.year d.years in
    let clock = mail_clock_exact d.clock (d.zone ++ d.comment) t.hour t.minute t.second d.clocks in
    let zone = spaced_zone_exact d.zone d.comment t.offset d.zones in
    let comment = comment_exact d.comment d.comments in
    rw (d.joined, front, day, month, year, clock, zone, comment) (ap (λ (x : DateTime). Some x) (made_is t t.weekday t.offset refl refl))

pub mail_sound : (text : List ℕ) (t : DateTime) → read_mail_date text ≡ Some t → IsMailDate text t
unfolding read_mail_date
mail_sound text t h =
    option_and_then_some _ _ _ h (λ w found_front a. option_and_then_some _ _ _ a
    (λ d found_day b. option_and_then_some _ _ _ b (λ m found_month e.
    option_and_then_some _ _ _ e (λ y found_year f. option_and_then_some _ _ _ f
    (λ c found_clock g. option_and_then_some _ _ _ g (λ z found_zone ready.
    let front = front_sound text w.1 w.0 found_front in
    let day = day_sound w.1 d.1 d.0 found_day in
    let month = month_sound d.1 m.1 m.0 found_month in
    let year = year_sound m.1 y.1 y.0 found_year in
    let clock = mail_clock_sound y.1 c.1 c.0 found_clock in
    let zone = spaced_zone_sound c.1 z.1 z.0 found_zone in
    let last = cond_some (is_comment z.1) (made w.0 y.0 m.0 d.0 c.0 z.0) t ready in
    let clocks : y.1 ≡ 32 ∷ (clock.0 ++ (32 ∷ (zone.0 ++ z.1))) = clock.2 ∙ ap (λ (l : List ℕ). 32 ∷ (clock.0 ++ l)) zone.2 in
    let years : m.1 ≡ 32 ∷ (year.0 ++ (32 ∷ (clock.0 ++ (32 ∷ (zone.0 ++ z.1))))) =
    year.2 ∙ ap (λ (l : List ℕ). 32 ∷ (year.0 ++ l)) clocks in
    let months : d.1 ≡ 32 ∷ (month.0 ++ (32 ∷ (year.0 ++ (32 ∷ (clock.0 ++ (32 ∷ (zone.0 ++ z.1))))))) =
    month.2 ∙ ap (λ (l : List ℕ). 32 ∷ (month.0 ++ l)) years in
    let days : w.1 ≡ day.0 ++ (32 ∷ (month.0 ++ (32 ∷ (year.0 ++ (32 ∷ (clock.0 ++ (32 ∷ (zone.0 ++ z.1)))))))) =
    day.2 ∙ ap (λ (l : List ℕ). day.0 ++ l) months in
    let P : DateTime → Type 0 = λ v. IsMailDate text v in
    let is : P (made w.0 y.0 m.0 d.0 c.0 z.0) = record {
      front = front.0;
      day_text = day.0;
      month = month.0;
      year_text = year.0;
      clock = clock.0;
      zone = zone.0;
      comment = z.1;
      names = front.1;
      days = day.1;
      months = month.1;
      years = year.1;
      clocks = clock.1;
      zones = zone.1;
      comments = comment_sound z.1 last.0;
      joined = front.2 ∙ ap (λ (l : List ℕ). front.0 ++ l) days;
    } in
    subst P last.1 is))))))

pub one_mail_date : (text : List ℕ) (a b : DateTime) → IsMailDate text a → IsMailDate text b → a ≡ b
one_mail_date text a b h k = let same : Some a ≡ Some b = sym (mail_exact text a h) ∙ mail_exact text b k in cc
