-- The three kinds of days: each is read exactly, and where two stand in front, which is longer.
use Rattle.std.proofs.Common.{◌≡◌, ℕ, ℤ, ◌+◌, ◌<◌, ◌⊎◌, ◌==◌, Bool, true, false, cond, List, [], ◌∷◌, ◌++◌, length, Option, Some, None}
use Rattle.std.proofs.Common.{refl, sym, ◌∙◌, ap, append_assoc, length-append, arith, inl, inr}
use Rattle.std.specs.Char.{is_ascii_digit, digit_value}
use Rattle.scan_core.specs.Digits.{number_of}
use Rattle.std.proofs.lemmas.Bool.Decides.{nat_tests}
use Rattle.std.proofs.lemmas.Option.{some_pair_parts, option_and_then_some}
use Rattle.std.specs.Prelude.{option_and_then}
use Rattle.iso8601.specs.declared.types.Date.{Date}
use Rattle.iso8601.specs.declared.types.Date.TheVariants.{YMD}
use Rattle.scan_core.specs.Fields.{IsField}
use Rattle.iso8601.specs.Dates.{IsMonthDay, IsWeekDay}
use Rattle.iso8601.specs.inside.GrammarParts.{IsOrdinalDay, IsDayOf}
use Rattle.iso8601.specs.inside.Reading.{is_field, read_field, read_marked, or_else, read_month_day, read_week_day, read_ordinal_day}
use Rattle.iso8601.specs.inside.Reading.{read_day}
use Rattle.iso8601.proofs.Longest.{Sound, Reach, Exact, NoShorter, reach_from_exact, either_sound, either_reach}
use Rattle.scan_core.specs.Fronts.{NoDigitFirst}
use Rattle.iso8601.proofs.FieldFacts.{NotFirst, behind, joins, not_digit, marked_cut, marked_exact, marked_sound, field_exact, field_sound}
use Rattle.iso8601.proofs.FieldFacts.{field_first, letter_none, letter_sound}

-- ---- by month

pub month_day_exact : (year : ℤ) → Exact (IsMonthDay year) (read_month_day year)
unfolding read_month_day
month_day_exact year text rest date m =
    let month = field_exact 2 1 12 m.month_text (m.day_text ++ rest) m.month m.months in
    let day = marked_exact 45 2 1 31 refl (omega arith) m.day_text rest m.day m.days in
    rw (behind text m.month_text m.day_text rest m.joined, month, day, m.value) refl

pub month_day_sound : (year : ℤ) → Sound (IsMonthDay year) (read_month_day year)
unfolding read_month_day
month_day_sound year bytes rest date h =
    option_and_then_some _ _ _ h (λ m found body. option_and_then_some _ _ _ body (λ d found_day made.
    let month = field_sound 2 1 12 bytes m.1 m.0 found in
    let day = marked_sound 45 2 1 31 m.1 d.1 d.0 found_day in
    let parts = some_pair_parts _ _ _ _ made in (
      month.0 ++ day.0,
      record {
        month_text = month.0;
        day_text = day.0;
        month = m.0;
        day = d.0;
        months = month.1;
        days = day.1;
        joined = refl;
        value = sym parts.0;
      },
      joins bytes month.0 day.0 _ rest month.2 (day.2 ∙ ap (λ (l : List ℕ). day.0 ++ l) parts.1),
    )))

-- ---- by week

pub week_day_exact : (year : ℤ) → Exact (IsWeekDay year) (read_week_day year)
unfolding read_week_day
week_day_exact year text rest date w =
    let split : text ++ rest ≡ 87 ∷ (w.week_text ++ (w.day_text ++ rest)) = ap (λ (l : List ℕ). l ++ rest) w.joined
    ∙ ap (λ (l : List ℕ). 87 ∷ l) (append_assoc w.week_text w.day_text rest) in
    let week = field_exact 2 1 53 w.week_text (w.day_text ++ rest) w.week w.weeks in
    let day = marked_exact 45 1 1 7 refl (omega arith) w.day_text rest w.day w.days in
    rw (split, week, day, w.value) refl

pub week_day_sound : (year : ℤ) → Sound (IsWeekDay year) (read_week_day year)
unfolding read_week_day
week_day_sound year bytes rest date h =
    option_and_then_some _ _ _ h (λ l letter body. option_and_then_some _ _ _ body
    (λ w found more. option_and_then_some _ _ _ more (λ d found_day made.
    let week = field_sound 2 1 53 l w.1 w.0 found in
    let day = marked_sound 45 1 1 7 w.1 d.1 d.0 found_day in
    let parts = some_pair_parts _ _ _ _ made in (
      87 ∷ (week.0 ++ day.0),
      record {
        week_text = week.0;
        day_text = day.0;
        week = w.0;
        day = d.0;
        weeks = week.1;
        days = day.1;
        joined = refl;
        value = sym parts.0;
      },
      letter_sound 87 bytes l letter ∙ ap (λ (x : List ℕ). 87 ∷ x)
          (joins l week.0 day.0 _ rest week.2 (day.2 ∙ ap (λ (x : List ℕ). day.0 ++ x) parts.1)),
    ))))

-- ---- by number

pub ordinal_day_exact : (year : ℤ) → Exact (IsOrdinalDay year) (read_ordinal_day year)
unfolding read_ordinal_day
ordinal_day_exact year text rest date o = let day = field_exact 3 1 366 text rest o.0 o.1 in rw (day, o.2) refl

pub ordinal_day_sound : (year : ℤ) → Sound (IsOrdinalDay year) (read_ordinal_day year)
unfolding read_ordinal_day
ordinal_day_sound year bytes rest date h =
    option_and_then_some _ _ _ h (λ d found made.
    let day = field_sound 3 1 366 bytes d.1 d.0 found in
    let parts = some_pair_parts _ _ _ _ made in
    (day.0, (d.0, day.1, sym parts.0), day.2 ∙ ap (λ (l : List ℕ). day.0 ++ l) parts.1))

-- ---- two kinds in front of the same bytes

front_length : (bytes text rest : List ℕ) → bytes ≡ text ++ rest → length bytes ≡ length text + length rest
front_length bytes text rest h = rw (h, length-append) refl

-- by month a day has four bytes or five, by number three
month_is_longer : (year : ℤ) (bytes : List ℕ) → NoShorter (read_month_day year bytes) (read_ordinal_day year bytes)
month_is_longer year bytes x y found_x found_y =
    let m = month_day_sound year bytes x.1 x.0 found_x in
    let o = ordinal_day_sound year bytes y.1 y.0 found_y in
    omega (
      arith,
      front_length bytes m.0 x.1 m.2,
      front_length bytes o.0 y.1 o.2,
      front_length m.0 m.1.month_text m.1.day_text m.1.joined,
      front_length m.1.day_text m.1.days.front m.1.days.digits m.1.days.joined,
      m.1.months.long,
      m.1.days.field.long,
      o.1.1.long,
    )

pub month_or_ordinal_sound : (year : ℤ) → Sound (λ text date. IsMonthDay year text date ⊎ IsOrdinalDay year text date)
    (λ bytes. or_else (read_month_day year bytes) (read_ordinal_day year bytes))
month_or_ordinal_sound year = either_sound (IsMonthDay year) (IsOrdinalDay year) (read_month_day year) (read_ordinal_day year)
    (month_day_sound year) (ordinal_day_sound year)

-- those two begin with a digit
month_first : (byte : ℕ) (year : ℤ) (text rest : List ℕ) (date : Date) → is_ascii_digit byte ≡ false → IsMonthDay year text date
    → NotFirst byte (text ++ rest)
month_first byte year text rest date h m = rw (behind text m.month_text m.day_text rest m.joined)
    (field_first byte 2 1 12 m.month_text _ m.month h (omega arith) m.months)

digit_first : (byte : ℕ) (year : ℤ) (text rest : List ℕ) (date : Date) → is_ascii_digit byte ≡ false → IsMonthDay year text date
    ⊎ IsOrdinalDay year text date → NotFirst byte (text ++ rest)
digit_first byte year text rest date h (inl m) = month_first byte year text rest date h m
digit_first byte year text rest date h (inr o) = field_first byte 3 1 366 text rest o.0 h (omega arith) o.1

-- and by week with a letter
week_first : (year : ℤ) (text rest : List ℕ) (date : Date) → IsWeekDay year text date → (tail : List ℕ) × (text ++ rest ≡ 87 ∷ tail)
week_first year text rest date w = (_, ap (λ (l : List ℕ). l ++ rest) w.joined)

not_both : (byte : ℕ) (bytes tail : List ℕ) → bytes ≡ byte ∷ tail → NotFirst byte bytes → ⊥
not_both byte bytes tail h n = let other : (byte == byte) ≡ false = rw h at n in grind (arith, nat_tests)

week_alone : (year : ℤ) (bytes : List ℕ) → NoShorter (read_week_day year bytes)
    (or_else (read_month_day year bytes) (read_ordinal_day year bytes))
week_alone year bytes x y found_x found_y =
    let w = week_day_sound year bytes x.1 x.0 found_x in
    let d = month_or_ordinal_sound year bytes y.1 y.0 found_y in
    let letter = week_first year w.0 x.1 x.0 w.1 in
    absurd (not_both 87 bytes letter.0 (w.2 ∙ letter.1) (rw d.2 (digit_first 87 year d.0 y.1 y.0 refl d.1)))

-- ---- a day of any kind

abbrev IsDay : ℤ → List ℕ → Date → Type 0
IsDay year text date = IsWeekDay year text date ⊎ (IsMonthDay year text date ⊎ IsOrdinalDay year text date)

turned : {A B C : Type 0} → A ⊎ (B ⊎ C) → B ⊎ (A ⊎ C)
turned (inl a) = inr (inl a)
turned (inr (inl b)) = inl b
turned (inr (inr c)) = inr (inr c)

pub day_sound : (year : ℤ) → Sound (IsDayOf year) (read_day year)
unfolding read_day
day_sound year bytes rest date h =
    let d = either_sound (IsWeekDay year) _ (read_week_day year) _ (week_day_sound year) (month_or_ordinal_sound year) bytes rest date h in
    (d.0, turned d.1, d.2)

pub day_reach : (year : ℤ) → Reach (IsDayOf year) (read_day year)
unfolding read_day
day_reach year text rest date d =
    let later = either_reach (IsMonthDay year) (IsOrdinalDay year) (read_month_day year) (read_ordinal_day year)
    (reach_from_exact _ (read_month_day year) (month_day_exact year))
    (reach_from_exact _ (read_ordinal_day year) (ordinal_day_exact year)) (month_is_longer year) in
    either_reach (IsWeekDay year) _ (read_week_day year) _ (reach_from_exact _ (read_week_day year) (week_day_exact year)) later
    (week_alone year) text rest date (turned d)

-- no day begins with a hyphen
day_first : (year : ℤ) (text rest : List ℕ) (date : Date) → IsDay year text date → NotFirst 45 (text ++ rest)
day_first year text rest date (inl w) = let letter = week_first year text rest date w in rw letter.1 refl
day_first year text rest date (inr d) = digit_first 45 year text rest date refl d

pub no_hyphen : (year : ℤ) (text rest : List ℕ) (date : Date) → IsDayOf year text date → NotFirst 45 (text ++ rest)
no_hyphen year text rest date d = day_first year text rest date (turned d)

-- ---- where no digit follows, a day is read exactly

week_none : (year : ℤ) (bytes : List ℕ) → NotFirst 87 bytes → read_week_day year bytes ≡ None
unfolding read_week_day
week_none year bytes n = rw (letter_none 87 bytes n) refl

three_bytes : (text : List ℕ) → length text ≡ 3 → (a b c : ℕ) × (text ≡ a ∷ b ∷ c ∷ [])
three_bytes [] h = absurd (omega arith)
three_bytes (a ∷ []) h = absurd (omega arith)
three_bytes (a ∷ b ∷ []) h = absurd (omega arith)
three_bytes (a ∷ b ∷ c ∷ []) h = (a, b, c, refl)
three_bytes (a ∷ b ∷ c ∷ d ∷ ds) h = absurd (omega arith)

-- the day behind a month, as it is read
abbrev day_behind : ℤ → Option (ℕ × List ℕ) → Option (Date × List ℕ)
day_behind year month = option_and_then (λ m. option_and_then (λ d. Some (YMD year m.0 d.0, d.1)) (read_marked 45 2 1 31 m.1)) month

-- a month and one further digit are no day
month_if : (year : ℤ) (t : Bool) (n : ℕ) (rest : List ℕ) → read_marked 45 2 1 31 rest ≡ None
    → day_behind year (cond t (Some (n, rest)) None) ≡ None
month_if year true n rest none = rw none refl
month_if year false n rest none = refl

third_digit : (year : ℤ) (a b c : ℕ) (rest : List ℕ) → digit_value c < 10 → NoDigitFirst rest
    → read_month_day year (a ∷ b ∷ c ∷ rest) ≡ None
unfolding read_month_day read_field
third_digit year a b c rest d n = month_if year (is_field 2 1 12 (a ∷ b ∷ [])) (number_of (a ∷ b ∷ [])) (c ∷ rest)
    (marked_cut 45 1 31 c rest (not_digit 45 c refl d) n)

month_none : (year : ℤ) (text rest : List ℕ) (day : ℕ) → IsField 3 1 366 text day → NoDigitFirst rest
    → read_month_day year (text ++ rest) ≡ None
month_none year text rest day f n =
    let t = three_bytes text f.long in
    let digits = rw t.3 at f.digits in
    rw t.3 (third_digit year t.0 t.1 t.2 rest digits.1.1.0 n)

pub day_exact : (year : ℤ) (text rest : List ℕ) (date : Date) → IsDayOf year text date → NoDigitFirst rest
    → read_day year (text ++ rest) ≡ Some (date, rest)
unfolding read_day
day_exact year text rest date (inl m) n = rw (
  week_none year (text ++ rest) (month_first 87 year text rest date refl m),
  month_day_exact year text rest date m,
) refl
day_exact year text rest date (inr (inl w)) n = rw (week_day_exact year text rest date w) refl
day_exact year text rest date (inr (inr o)) n =
    rw (
      week_none year (text ++ rest) (digit_first 87 year text rest date refl (inr o)),
      month_none year text rest o.0 o.1 n,
      ordinal_day_exact year text rest date o,
    ) refl
