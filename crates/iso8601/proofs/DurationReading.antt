-- Durations are read: what is read is a duration, and no longer front is one.
use Rattle.std.proofs.Common.{◌≡◌, ◌≢◌, ℕ, ◌<◌, ◌≤◌, ◌^◌, ◌⊎◌, ◌==◌, nat_lt, true, false, List, [], ◌∷◌, ◌++◌, length, Option, Some, None}
use Rattle.std.proofs.Common.{refl, sym, ◌∙◌, ap, subst, append_assoc, length-append, arith, inl, inr, codes}
use Rattle.std.proofs.lemmas.Bool.{eqb-true, ltb-true, lt-ltb}
use Rattle.std.proofs.Math.Nat.{pow-le-pow_right}
use Rattle.std.proofs.lemmas.Bool.Decides.{nat_tests}
use Rattle.std.proofs.lemmas.Option.{cond_some, option_and_then_some, some_pair_parts}
use Rattle.iso8601.specs.declared.types.Duration.{Duration}
use Rattle.scan_core.specs.Digits.{AreDigits, number_of}
use Rattle.scan_core.proofs.DigitFacts.{digits-append, number_of-lt}
use Rattle.scan_core.specs.Fields.{IsField}
use Rattle.iso8601.specs.inside.GrammarParts.{IsPerhaps}
use Rattle.iso8601.specs.Durations.{IsNumberOf32Bits, IsCounted, IsDated, IsDuration}
use Rattle.iso8601.specs.inside.GrammarParts.{IsPerhapsClock, IsWeeks, IsBody}
use Rattle.iso8601.specs.inside.Reading.{or_else}
use Rattle.iso8601.specs.inside.TimeReading.{read_both, read_time}
use Rattle.iso8601.specs.inside.DurationReading.{Peeked, peek, read_count, read_perhaps, read_clock, read_counts, duration_of, read_counted}
use Rattle.iso8601.specs.inside.DurationReading.{read_weeks, read_dated, dated_of, read_body, read_duration}
use Rattle.iso8601.proofs.FieldFacts.{NotFirst, behind, joins, letter_sound, digits_first, field_exact, field_sound, marked_exact}
use Rattle.iso8601.proofs.FieldFacts.{marked_sound}
use Rattle.iso8601.proofs.TimeReading.{time_sound, time_reach, time_exact}
use Rattle.iso8601.proofs.Longest.{Sound, Reach, Exact, NoShorter, either_sound, either_reach, reach_from_exact, with_value, reaches_with}
use Rattle.iso8601.proofs.Optional.{Optional, IsBoth, both_optional, both_marks}
use Rattle.iso8601.proofs.CountFacts.{IsPerhapsCount, NoCount, count_optional, count_marks, count_exact, count_sound, clock_optional}
use Rattle.iso8601.proofs.CountFacts.{clock_marks, nothing_left, seen, peek_exact, peek_sound, other_unit}

abbrev Clock : Type 0
Clock = ℕ × (ℕ × (ℕ × ℕ))

abbrev Counts : Type 0
Counts = ℕ × (ℕ × (ℕ × Clock))

-- ---- counts in a row

abbrev IsLate : List ℕ → ℕ × Clock → Type 0
IsLate = IsBoth (IsPerhapsCount (codes "D")) IsPerhapsClock

abbrev IsLater : List ℕ → ℕ × (ℕ × Clock) → Type 0
IsLater = IsBoth (IsPerhapsCount (codes "M")) IsLate

abbrev IsCounts : List ℕ → Counts → Type 0
IsCounts = IsBoth (IsPerhapsCount (codes "Y")) IsLater

counts_optional : Optional IsCounts read_counts (λ rest. rest ≡ [])
unfolding read_counts
counts_optional =
    let late = both_optional (IsPerhapsCount (codes "D")) IsPerhapsClock (read_perhaps 68) read_clock (NoCount 68) (λ rest. rest ≡ [])
    (count_optional 68 refl) clock_optional (clock_marks 68) (nothing_left 68) in
    let late_marks = both_marks (IsPerhapsCount (codes "D")) IsPerhapsClock (NoCount 77) (count_marks 68 77 refl refl) (clock_marks 77) in
    let later = both_optional (IsPerhapsCount (codes "M")) IsLate (read_perhaps 77) (read_both (read_perhaps 68) read_clock) (NoCount 77)
    (λ rest. rest ≡ []) (count_optional 77 refl) late late_marks (nothing_left 77) in
    let early_marks = both_marks (IsPerhapsCount (codes "D")) IsPerhapsClock (NoCount 89) (count_marks 68 89 refl refl) (clock_marks 89) in
    let later_marks = both_marks (IsPerhapsCount (codes "M")) IsLate (NoCount 89) (count_marks 77 89 refl refl) early_marks in
    both_optional (IsPerhapsCount (codes "Y")) IsLater (read_perhaps 89)
    (read_both (read_perhaps 77) (read_both (read_perhaps 68) read_clock)) (NoCount 89) (λ rest. rest ≡ [])
    (count_optional 89 refl) later later_marks (nothing_left 89)

abbrev values_of : (text : List ℕ) (d : Duration) → IsCounted text d → Counts
values_of text d c = (c.year, (c.month, (c.day, c.clock)))

counts_of : (text : List ℕ) (d : Duration) (c : IsCounted text d) → IsCounts text (values_of text d c)
counts_of text d c =
    record {
      first = c.year_text;
      second = c.month_text ++ (c.day_text ++ c.clock_text);
      is_first = c.years;
      is_second = record {
        first = c.month_text;
        second = c.day_text ++ c.clock_text;
        is_first = c.months;
        is_second = record { first = c.day_text; second = c.clock_text; is_first = c.days; is_second = c.clocks; joined = refl };
        joined = refl;
      };
      joined = c.joined;
    }

counted_from : (text : List ℕ) (v : Counts) → text ≢ [] → IsCounts text v → IsCounted text (duration_of v)
counted_from text v some c =
    record {
      year_text = c.first;
      month_text = c.is_second.first;
      day_text = c.is_second.is_second.first;
      clock_text = c.is_second.is_second.second;
      year = v.0;
      month = v.1.0;
      day = v.1.1.0;
      clock = v.1.1.1;
      years = c.is_first;
      months = c.is_second.is_first;
      days = c.is_second.is_second.is_first;
      clocks = c.is_second.is_second.is_second;
      some = some;
      joined = c.joined ∙ ap (λ (l : List ℕ). c.first ++ l) (c.is_second.joined
          ∙ ap (λ (l : List ℕ). c.is_second.first ++ l) c.is_second.is_second.joined);
      value = refl;
    }

pub not_less : (a : ℕ) → nat_lt a a ≡ false
not_less a = grind (arith, nat_tests)

-- bytes of which less is left were not all left
some_text : (bytes text rest : List ℕ) → bytes ≡ text ++ rest → length rest < length bytes → text ≢ []
some_text bytes text rest split less none = let l : length bytes ≡ length rest = ap length (split ∙ ap (λ (l : List ℕ). l ++ rest) none) in
    absurd (omega arith)

longer : (text rest : List ℕ) → text ≢ [] → length rest < length (text ++ rest)
longer [] rest some = absurd (some refl)
longer (b ∷ bs) rest some = let l = length-append bs rest in omega arith

counted_sound : Sound IsCounted read_counted
unfolding read_counted
counted_sound bytes rest d h =
    let found = cond_some (nat_lt (length (read_counts bytes).1) (length bytes)) _ _ h in
    let parts = some_pair_parts _ _ _ _ (ap Some found.1) in
    let c = counts_optional.sound bytes in
    let less = ltb-true _ _ found.0 in
    let P : Duration → Type 0 = λ v. IsCounted c.0 v in (
      c.0,
      subst P parts.0 (counted_from c.0 (read_counts bytes).0 (some_text bytes c.0 (read_counts bytes).1 c.2 less) c.1),
      c.2
          ∙ ap (λ (l : List ℕ). c.0 ++ l) parts.1,
    )

counted_reach : Reach IsCounted read_counted
unfolding read_counted
counted_reach text rest d c =
    let far = counts_optional.reach text rest (values_of text d c) (counts_of text d c) in
    let test : nat_lt (length (read_counts (text ++ rest)).1) (length (text ++ rest))
    ≡ true = lt-ltb _ _ (let l = longer text rest c.some in omega arith) in
    rw test far

counted_whole : (text : List ℕ) (d : Duration) → IsCounted text d → read_counted (text ++ []) ≡ Some (d, [])
unfolding read_counted
counted_whole text d c =
    let all = counts_optional.exact text [] (values_of text d c) (counts_of text d c) refl in
    let test : nat_lt 0 (length (text ++ [])) ≡ true = lt-ltb 0 _ (longer text [] c.some) in
    rw (all, test, c.value) refl

-- ---- weeks

weeks_exact : Exact IsWeeks read_weeks
unfolding read_weeks
weeks_exact text rest d w = let count = count_exact 87 text rest w.0 refl w.1 in rw (count, w.2) refl

weeks_sound : Sound IsWeeks read_weeks
unfolding read_weeks
weeks_sound bytes rest d h =
    option_and_then_some _ _ _ h (λ c found made.
    let count = count_sound 87 bytes c.1 c.0 found in
    let parts = some_pair_parts _ _ _ _ made in
    (count.0, (c.0, count.1, sym parts.0), count.2 ∙ ap (λ (l : List ℕ). count.0 ++ l) parts.1))

pub some_none : {A : Type 0} (x : A) → Some x ≡ None → ⊥
some_none x h = cc

pub clock_missing : (bytes : List ℕ) → NotFirst 84 bytes → read_clock bytes ≡ ((0, (0, (0, 0))), bytes)
clock_missing [] n = refl
clock_missing (b ∷ bs) n = rw n refl

-- ---- where weeks stand in front, no other counts do

no_clock : (p : Peeked) (bytes : List ℕ) → peek bytes ≡ Some p → read_clock bytes ≡ ((0, (0, (0, 0))), bytes)
no_clock p bytes h =
    let n = peek_sound bytes p h in
    rw n.2 (clock_missing (n.0 ++ (p.letter ∷ p.behind)) (digits_first 84 n.0 (p.letter ∷ p.behind) refl n.1.some n.1.all_digits))

-- the byte behind the digits is the letter of no count
abbrev pub IsNoUnit : ℕ → Type 0
IsNoUnit letter = ((letter == 89) ≡ false) × ((letter == 77) ≡ false) × ((letter == 68) ≡ false)

pub perhaps_none : (unit : ℕ) (rest : List ℕ) → read_count unit rest ≡ None → read_perhaps unit rest ≡ (0, rest)
unfolding read_perhaps
perhaps_none unit rest none = rw none refl

some_or_none : {A : Type 0} (o : Option A) → (o ≡ None) ⊎ ((x : A) × (o ≡ Some x))
some_or_none None = inl refl
some_or_none (Some x) = inr (x, refl)

no_counts : (p : Peeked) (bytes : List ℕ) → peek bytes ≡ Some p → IsNoUnit p.letter
    → read_counts bytes ≡ ((0, (0, (0, (0, (0, (0, 0)))))), bytes)
unfolding read_counts
no_counts p bytes h other =
    let y = perhaps_none 89 bytes (other_unit 89 bytes p h other.0) in
    let m = perhaps_none 77 bytes (other_unit 77 bytes p h other.1) in
    let d = perhaps_none 68 bytes (other_unit 68 bytes p h other.2) in
    rw (y, m, d, no_clock p bytes h) refl

not_counted : (p : Peeked) (bytes : List ℕ) → peek bytes ≡ Some p → IsNoUnit p.letter → read_counted bytes ≡ None
unfolding read_counted
not_counted p bytes h other = rw (no_counts p bytes h other, not_less (length bytes)) refl

count_peek : (unit : ℕ) (bytes : List ℕ) (w : ℕ × List ℕ) → read_count unit bytes ≡ Some w → (p : Peeked) × (peek bytes ≡ Some p)
    × (p.letter ≡ unit)
unfolding read_count
count_peek unit bytes w h = option_and_then_some _ _ _ h (λ p found body.
    (p, found, eqb-true p.letter unit (cond_some (p.letter == unit) _ _ body).0))

weeks_peek : (bytes : List ℕ) (x : Duration × List ℕ) → read_weeks bytes ≡ Some x → (p : Peeked) × (peek bytes ≡ Some p) × (p.letter ≡ 87)
unfolding read_weeks
weeks_peek bytes x h = option_and_then_some _ _ _ h (λ w found made. count_peek 87 bytes w found)

no_weeks : (p : Peeked) (bytes : List ℕ) → peek bytes ≡ Some p → (p.letter == 87) ≡ false → read_weeks bytes ≡ None
unfolding read_weeks
no_weeks p bytes h other = rw (other_unit 87 bytes p h other) refl

-- ---- a date and a time

split_four : (a b c d rest : List ℕ) → (a ++ (b ++ (c ++ (84 ∷ d)))) ++ rest ≡ a ++ (b ++ (c ++ (84 ∷ (d ++ rest))))
split_four a b c d rest = simp append_assoc refl

dated_split : (text rest : List ℕ) (d : Duration) (is : IsDated text d)
    → text ++ rest ≡ is.year_text ++ (is.month_text ++ (is.day_text ++ (84 ∷ (is.time_text ++ rest))))
dated_split text rest d is = ap (λ (l : List ℕ). l ++ rest) is.joined ∙ split_four is.year_text is.month_text is.day_text is.time_text rest

dated_at : (text rest : List ℕ) (d : Duration) (is : IsDated text d)
    → read_dated (text ++ rest) ≡ with_value (dated_of is.year is.month is.day) (read_time (is.time_text ++ rest))
unfolding read_dated
dated_at text rest d is =
    let behind : List ℕ = 84 ∷ (is.time_text ++ rest) in
    let year = field_exact 4 0 9999 is.year_text (is.month_text ++ (is.day_text ++ behind)) is.year is.years in
    let month = marked_exact 45 2 1 12 refl (omega arith) is.month_text (is.day_text ++ behind) is.month is.months in
    let day = marked_exact 45 2 1 31 refl (omega arith) is.day_text behind is.day is.days in
    rw (dated_split text rest d is, year, month, day) refl

dated_reach : Reach IsDated read_dated
dated_reach text rest d is = rw (dated_at text rest d is) (reaches_with (dated_of is.year is.month is.day)
    (read_time (is.time_text ++ rest)) rest (time_reach is.time_text rest is.time is.times))

dated_whole : (text : List ℕ) (d : Duration) → IsDated text d → read_dated (text ++ []) ≡ Some (d, [])
dated_whole text d is =
    dated_at text [] d is ∙ ap (with_value (dated_of is.year is.month is.day)) (time_exact is.time_text is.time is.times)
    ∙ ap (λ (v : Duration). Some (v, [])) (sym is.value)

dated_sound : Sound IsDated read_dated
unfolding read_dated
dated_sound bytes rest d h =
    option_and_then_some _ _ _ h (λ y found_y more_y. option_and_then_some _ _ _ more_y
    (λ m found_m more_m. option_and_then_some _ _ _ more_m (λ k found_k more_k. option_and_then_some _ _ _ more_k
    (λ behind marked more. option_and_then_some _ _ _ more (λ t found_t made.
    let year = field_sound 4 0 9999 bytes y.1 y.0 found_y in
    let month = marked_sound 45 2 1 12 y.1 m.1 m.0 found_m in
    let day = marked_sound 45 2 1 31 m.1 k.1 k.0 found_k in
    let time = time_sound behind t.1 t.0 found_t in
    let parts = some_pair_parts _ _ _ _ made in
    let last : k.1 ≡ (84 ∷ time.0) ++ rest = letter_sound 84 k.1 behind marked
    ∙ ap (λ (l : List ℕ). 84 ∷ l) (time.2 ∙ ap (λ (l : List ℕ). time.0 ++ l) parts.1) in (
      year.0 ++ (month.0 ++ (day.0 ++ (84 ∷ time.0))),
      record {
        year_text = year.0;
        month_text = month.0;
        day_text = day.0;
        time_text = time.0;
        year = y.0;
        month = m.0;
        day = k.0;
        time = t.0;
        years = year.1;
        months = month.1;
        days = day.1;
        times = time.1;
        joined = refl;
        value = sym parts.0;
      },
      joins bytes year.0 (month.0 ++ (day.0 ++ (84 ∷ time.0))) y.1 rest year.2
          (joins y.1 month.0 (day.0 ++ (84 ∷ time.0)) m.1 rest month.2 (joins m.1 day.0 (84 ∷ time.0) k.1 rest day.2 last)),
    ))))))

-- behind its first digits stands no letter of a unit
abbrev pub PeeksDate : List ℕ → Type 0
PeeksDate bytes = (p : Peeked) × (peek bytes ≡ Some p) × IsNoUnit p.letter × ((p.letter == 87) ≡ false)

run_is_number : (digits : List ℕ) → 0 < length digits → length digits ≤ 8 → AreDigits digits → IsNumberOf32Bits digits (number_of digits)
run_is_number digits some short all =
    let below = number_of-lt digits all in
    let most : 10 ^ length digits ≤ 10 ^ 8 = pow-le-pow_right {n = 10} (omega arith) {i = length digits} {j = 8} short in
    record { some = some; all_digits = all; number = refl; fits = omega arith }

peeks_hyphen : (digits more : List ℕ) → IsNumberOf32Bits digits (number_of digits) → PeeksDate (digits ++ 45 ∷ more)
peeks_hyphen digits more n = (seen (number_of digits) 45 more, peek_exact digits more 45 _ n refl, (refl, refl, refl), refl)

peeks_t : (digits more : List ℕ) → IsNumberOf32Bits digits (number_of digits) → PeeksDate (digits ++ 84 ∷ more)
peeks_t digits more n = (seen (number_of digits) 84 more, peek_exact digits more 84 _ n refl, (refl, refl, refl), refl)

dated_peek_at : (year first month second day more : List ℕ) (y m d : ℕ) → IsField 4 0 9999 year y → IsPerhaps (45 ∷ []) first
    → IsField 2 1 12 month m → IsPerhaps (45 ∷ []) second → IsField 2 1 31 day d
    → PeeksDate (year ++ (first ++ (month ++ (second ++ (day ++ 84 ∷ more)))))
dated_peek_at year first month second day more y m d fy (inr one) fm s fd =
    rw one (peeks_hyphen year _ (run_is_number year (omega (arith, fy.long)) (omega (arith, fy.long)) fy.digits))
dated_peek_at year first month second day more y m d fy (inl none) fm (inr one) fd =
    let l = length-append year month in
    let n = run_is_number (year ++ month) (omega (arith, fy.long)) (omega (arith, fy.long, fm.long))
    (digits-append year month fy.digits fm.digits) in
    rw (none, one, ← append_assoc year month (45 ∷ (day ++ 84 ∷ more))) (peeks_hyphen (year ++ month) (day ++ 84 ∷ more) n)
dated_peek_at year first month second day more y m d fy (inl none) fm (inl nil) fd =
    let k = length-append year (month ++ day) in
    let l = length-append month day in
    let n = run_is_number (year ++ (month ++ day)) (omega (arith, fy.long)) (omega (arith, fy.long, fm.long, fd.long))
    (digits-append year (month ++ day) fy.digits (digits-append month day fm.digits fd.digits)) in
    let P : List ℕ → Type 0 = λ l. PeeksDate l in
    let same : (year ++ (month ++ day)) ++ 84 ∷ more ≡ year ++ (month ++ (day ++ 84 ∷ more)) = append_assoc year (month ++ day) (84 ∷ more)
    ∙ ap (λ (x : List ℕ). year ++ x) (append_assoc month day (84 ∷ more)) in
    rw (none, nil) (subst P same (peeks_t (year ++ (month ++ day)) more n))

dated_peek : (text rest : List ℕ) (d : Duration) → IsDated text d → PeeksDate (text ++ rest)
dated_peek text rest d is =
    let m = is.months in
    let k = is.days in
    let split : text ++ rest ≡ is.year_text ++ (m.front ++ (m.digits ++ (k.front ++ (k.digits ++ (84 ∷ (is.time_text ++ rest)))))) =
    dated_split text rest d is
    ∙ ap (λ (l : List ℕ). is.year_text ++ l) (behind is.month_text m.front m.digits (is.day_text ++ (84 ∷ (is.time_text ++ rest))) m.joined
    ∙ ap (λ (l : List ℕ). m.front ++ (m.digits ++ l)) (behind is.day_text k.front k.digits (84 ∷ (is.time_text ++ rest)) k.joined)) in
    rw split (dated_peek_at is.year_text m.front m.digits k.front k.digits
    (is.time_text ++ rest) is.year is.month is.day is.years m.perhaps m.field k.perhaps k.field)

-- ---- the three kinds exclude each other

pub not_dated : (bytes : List ℕ) (x : Duration × List ℕ) → read_dated bytes ≡ Some x → PeeksDate bytes
not_dated bytes x h = let s = dated_sound bytes x.1 x.0 h in rw s.2 (dated_peek s.0 x.1 x.0 s.1)

never_both : {A : Type 0} (o : Option A) (x : A) → o ≡ Some x → o ≡ None → ⊥
never_both o x some none = some_none x (sym some ∙ none)

counted_alone : (bytes : List ℕ) → NoShorter (read_counted bytes) (read_dated bytes)
counted_alone bytes x y found_x found_y = let p = not_dated bytes y found_y in
    absurd (never_both (read_counted bytes) x found_x (not_counted p.0 bytes p.1 p.2))

is_no_unit : (letter : ℕ) → letter ≡ 87 → IsNoUnit letter
is_no_unit letter h = rw h (refl, refl, refl)

both_none : {A : Type 0} (a b : Option A) (x : A) → or_else a b ≡ Some x → (a ≡ Some x) ⊎ (b ≡ Some x)
both_none (Some y) b x h = inl h
both_none None b x h = inr h

weeks_alone : (bytes : List ℕ) → NoShorter (read_weeks bytes) (or_else (read_counted bytes) (read_dated bytes))
weeks_alone bytes x y found_x found_y =
    let w = weeks_peek bytes x found_x in
    elim (both_none (read_counted bytes) (read_dated bytes) y found_y) [
      | inl counted ↦ absurd (never_both (read_counted bytes) y counted (not_counted w.0 bytes w.1 (is_no_unit w.0.letter w.2)))
      | inr dated ↦ let p = not_dated bytes y dated in absurd (never_both (read_weeks bytes) x found_x (no_weeks p.0 bytes p.1 p.3))
    ]

-- ---- durations

pub body_sound : Sound IsBody read_body
unfolding read_body
body_sound bytes rest d h = either_sound IsWeeks _ read_weeks _ weeks_sound
    (either_sound IsCounted IsDated read_counted read_dated counted_sound dated_sound) bytes rest d h

body_reach : Reach IsBody read_body
unfolding read_body
body_reach text rest d is =
    let later = either_reach IsCounted IsDated read_counted read_dated counted_reach dated_reach counted_alone in
    either_reach IsWeeks _ read_weeks _ (reach_from_exact IsWeeks read_weeks weeks_exact) later weeks_alone text rest d is

pub body_whole : (body : List ℕ) (d : Duration) → IsBody body d → read_body (body ++ []) ≡ Some (d, [])
unfolding read_body
body_whole body d (inl w) = rw (weeks_exact body [] d w) refl
body_whole body d (inr (inl c)) =
    elim (some_or_none (read_weeks (body ++ []))) [
      | inl none ↦ rw (none, counted_whole body d c) refl
      | inr some ↦
          let w = weeks_peek (body ++ []) some.0 some.1 in
          absurd (never_both (read_counted (body ++ [])) (d, []) (counted_whole body d c)
          (not_counted w.0 (body ++ []) w.1 (is_no_unit w.0.letter w.2)))
    ]
body_whole body d (inr (inr t)) =
    let p = dated_peek body [] d t in
    rw (no_weeks p.0 (body ++ []) p.1 p.3, not_counted p.0 (body ++ []) p.1 p.2, dated_whole body d t) refl

behind_p : (text rest : List ℕ) (d : Duration) (is : IsDuration text d) → read_duration (text ++ rest) ≡ read_body (is.0 ++ rest)
unfolding read_duration
behind_p text rest d is = let split : text ++ rest ≡ 80 ∷ (is.0 ++ rest) = ap (λ (l : List ℕ). l ++ rest) is.2 in rw split refl

pub duration_sound : Sound IsDuration read_duration
unfolding read_duration
duration_sound bytes rest d h =
    option_and_then_some _ _ _ h (λ behind found body.
    let b = body_sound behind rest d body in
    (80 ∷ b.0, (b.0, b.1, refl), letter_sound 80 bytes behind found ∙ ap (λ (l : List ℕ). 80 ∷ l) b.2))

pub duration_reach : Reach IsDuration read_duration
duration_reach text rest d is = rw (behind_p text rest d is) (body_reach is.0 rest d is.1)

pub one_duration : (text : List ℕ) (a b : Duration) → IsDuration text a → IsDuration text b → a ≡ b
one_duration text a b is_a is_b =
    let whole = λ (d : Duration) (is : IsDuration text d). behind_p text [] d is ∙ body_whole is.0 d is.1 in
    (some_pair_parts a b [] [] (sym (whole a is_a) ∙ whole b is_b)).0
