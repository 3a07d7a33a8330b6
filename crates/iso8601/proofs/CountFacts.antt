-- The parts of a duration: counts, seconds, the clock.
use Rattle.std.proofs.Common.{◌≡◌, ℕ, ◌≤◌, ◌==◌, Bool, true, false, cond, List, [], ◌∷◌, ◌++◌, length, take, Option, Some, None, refl, sym}
use Rattle.std.proofs.Common.{◌∙◌, ap, subst, append_assoc, arith, inl, inr, codes}
use Rattle.std.proofs.lemmas.Bool.{eqb-true, eq-eqb}
use Rattle.std.specs.Char.{is_ascii_digit}
use Rattle.std.proofs.lemmas.Option.{cond_some, option_and_then_some, some_pair_parts}
use Rattle.scan_core.specs.Digits.{AreDigits, number_of}
use Rattle.iso8601.specs.Fields.{IsOrZero}
use Rattle.iso8601.specs.Prefixes.{Begins}
use Rattle.iso8601.specs.Times.{IsMilliseconds}
use Rattle.iso8601.specs.inside.GrammarParts.{IsPoint}
use Rattle.iso8601.specs.Durations.{IsNumberOf32Bits, IsCount, IsDecimal, IsDurationClock}
use Rattle.iso8601.specs.inside.GrammarParts.{IsSeconds, IsPerhapsClock}
use Rattle.iso8601.specs.inside.Reading.{number_in, read_mark}
use Rattle.scan_core.specs.Fronts.{front_digits, after_digits}
use Rattle.iso8601.specs.inside.TimeReading.{millis_of, read_both}
use Rattle.iso8601.specs.inside.CountedReading.{read_clock_counts}
use Rattle.iso8601.specs.inside.DurationReading.{Peeked, with_letter, peek, read_count, read_perhaps, no_seconds, closed_by, read_closed}
use Rattle.iso8601.specs.inside.DurationReading.{seconds_in, read_seconds, read_clock}
use Rattle.iso8601.proofs.FieldFacts.{letter_sound}
use Rattle.iso8601.proofs.NumberFacts.{number_exact, number_sound}
use Rattle.scan_core.proofs.FrontFacts.{front_of, after_of, front_are_digits, front_and_after}
use Rattle.iso8601.proofs.Optional.{Optional, Marks, IsBoth, both_marks, both_optional, shrinks, zero_optional}

-- ---- a number and the byte behind it

abbrev pub seen : ℕ → ℕ → List ℕ → Peeked
seen number letter behind = record { number = number; letter = letter; behind = behind }

pub peek_exact : (digits rest : List ℕ) (letter value : ℕ) → IsNumberOf32Bits digits value → is_ascii_digit letter ≡ false
    → peek (digits ++ letter ∷ rest) ≡ Some (seen value letter rest)
unfolding peek
peek_exact digits rest letter value n h =
    let front : front_digits (digits ++ letter ∷ rest) ≡ digits = front_of digits (letter ∷ rest) n.all_digits h in
    let after : after_digits (digits ++ letter ∷ rest) ≡ letter ∷ rest = after_of digits (letter ∷ rest) n.all_digits h in
    rw (front, after, number_exact digits value n) refl

abbrev IsSeen : ℕ → List ℕ → Option Peeked → Type 0
IsSeen number bytes None = ⊥
IsSeen number bytes (Some p) = (number ≡ p.number) × (bytes ≡ p.letter ∷ p.behind)

letter_made : (number : ℕ) (bytes : List ℕ) (p : Peeked) → with_letter number bytes ≡ Some p → (number ≡ p.number)
    × (bytes ≡ p.letter ∷ p.behind)
letter_made number [] p h = cc
letter_made number (b ∷ bs) p h =
    let P : Option Peeked → Type 0 = λ o. IsSeen number (b ∷ bs) o in
    subst P h (refl, refl)

pub peek_sound : (bytes : List ℕ) (p : Peeked) → peek bytes ≡ Some p → (digits : List ℕ) × IsNumberOf32Bits digits p.number
    × (bytes ≡ digits ++ p.letter ∷ p.behind)
unfolding peek
peek_sound bytes p h =
    option_and_then_some _ _ _ h (λ number is made.
    let parts = letter_made number (after_digits bytes) p made in
    let n = number_sound (front_digits bytes) p.number (front_are_digits bytes) (is ∙ ap Some parts.0) in (
      front_digits bytes,
      n,
      sym (front_and_after bytes) ∙ ap (λ (l : List ℕ). front_digits bytes ++ l) parts.1,
    ))

-- ---- counts

count_some : (unit : ℕ) (text rest : List ℕ) (value : ℕ) → is_ascii_digit unit ≡ false → IsCount (unit ∷ []) text value
    → peek (text ++ rest) ≡ Some (seen value unit rest)
count_some unit text rest value h c =
    let split : text ++ rest ≡ c.digits ++ (unit ∷ rest) = ap (λ (l : List ℕ). l ++ rest) c.joined
    ∙ append_assoc c.digits (unit ∷ []) rest in
    rw split (peek_exact c.digits rest unit value c.number h)

pub count_exact : (unit : ℕ) (text rest : List ℕ) (value : ℕ) → is_ascii_digit unit ≡ false → IsCount (unit ∷ []) text value
    → read_count unit (text ++ rest) ≡ Some (value, rest)
unfolding read_count
count_exact unit text rest value h c = rw (count_some unit text rest value h c, eq-eqb unit unit refl) refl

-- a count of another unit, and other texts behind whose digits another byte stands
pub other_unit : (unit : ℕ) (bytes : List ℕ) (p : Peeked) → peek bytes ≡ Some p → (p.letter == unit) ≡ false → read_count unit bytes ≡ None
unfolding read_count
other_unit unit bytes p h other = rw (h, other) refl

pub count_sound : (unit : ℕ) (bytes rest : List ℕ) (value : ℕ) → read_count unit bytes ≡ Some (value, rest)
    → Begins (IsCount (unit ∷ [])) bytes value rest
unfolding read_count
count_sound unit bytes rest value h =
    option_and_then_some _ _ _ h (λ p found body.
    let test = cond_some (p.letter == unit) _ _ body in
    let parts = some_pair_parts _ _ _ _ (ap Some test.1) in
    let n = peek_sound bytes p found in
    let here : p.letter ≡ unit = eqb-true p.letter unit test.0 in
    let P : ℕ → Type 0 = λ v. IsNumberOf32Bits n.0 v in (
      n.0 ++ unit ∷ [],
      record { digits = n.0; number = subst P parts.0 n.1; joined = refl },
      n.2 ∙ ap (λ (l : List ℕ). n.0 ++ l) (ap (λ (c : ℕ). c ∷ p.behind) here ∙ ap (λ (l : List ℕ). unit ∷ l) parts.1)
          ∙ sym (append_assoc n.0 (unit ∷ []) rest),
    ))

abbrev pub IsPerhapsCount : List ℕ → List ℕ → ℕ → Type 0
IsPerhapsCount unit = IsOrZero (IsCount unit)

-- no count of the unit is in front
abbrev pub NoCount : ℕ → List ℕ → Type 0
NoCount unit bytes = read_count unit bytes ≡ None

pub count_optional : (unit : ℕ) → is_ascii_digit unit ≡ false → Optional (IsPerhapsCount (unit ∷ [])) (read_perhaps unit) (NoCount unit)
unfolding read_perhaps
count_optional unit h = zero_optional (IsCount (unit ∷ [])) (read_count unit) (count_sound unit)
    (λ text rest value c. count_exact unit text rest value h c)

pub count_marks : (unit other : ℕ) → is_ascii_digit unit ≡ false → (unit == other) ≡ false
    → Marks (IsPerhapsCount (unit ∷ [])) (NoCount other)
count_marks unit other h k text value (inl none) = inl none.0
count_marks unit other h k text value (inr c) = inr (λ rest. other_unit other (text ++ rest) (seen value unit rest)
    (count_some unit text rest value h c) k)

pub nothing_left : (unit : ℕ) (rest : List ℕ) → rest ≡ [] → NoCount unit rest
unfolding read_count peek number_in
nothing_left unit rest end = rw end refl

-- a text that begins with no digit has no count in front
pub no_number : (unit b : ℕ) (bs : List ℕ) → is_ascii_digit b ≡ false → NoCount unit (b ∷ bs)
unfolding read_count peek number_in
no_number unit b bs h = rw h refl

-- ---- seconds

closed_made : (bytes digits : List ℕ) (p : Peeked) (o : Option (List ℕ)) → IsNumberOf32Bits digits p.number
    → bytes ≡ digits ++ p.letter ∷ p.behind → IsPoint (p.letter ∷ []) → read_mark 83 (after_digits p.behind) ≡ o
    → Begins IsSeconds bytes (closed_by bytes (p.number, millis_of (front_digits p.behind)) o).0
    (closed_by bytes (p.number, millis_of (front_digits p.behind)) o).1
unfolding millis_of
closed_made bytes digits p None n split point h = ([], inl (inl (refl, refl), refl), refl)
closed_made bytes digits p (Some rest) n split point h =
    let fd : List ℕ = front_digits p.behind in
    let behind : p.behind ≡ fd ++ 83 ∷ rest = sym (front_and_after p.behind)
    ∙ ap (λ (l : List ℕ). fd ++ l) (letter_sound 83 (after_digits p.behind) rest h) in
    let fraction : IsMilliseconds (p.letter ∷ fd) (number_of (take 3 (fd ++ codes "000"))) =
    record { point = p.letter ∷ []; digits = fd; mark = point; all_digits = front_are_digits p.behind; joined = refl; value = refl } in (
      digits ++ ((p.letter ∷ fd) ++ codes "S"),
      inr (record { digits = digits; fraction = p.letter ∷ fd; number = n; millis = fraction; joined = refl }),
      split ∙ ap (λ (l : List ℕ). digits ++ (p.letter ∷ l)) (behind ∙ sym (append_assoc fd (83 ∷ []) rest))
          ∙ sym (append_assoc digits ((p.letter ∷ fd) ++ codes "S") rest),
    )

seconds_if : (bytes digits : List ℕ) (p : Peeked) (whole point comma : Bool) → IsNumberOf32Bits digits p.number
    → bytes ≡ digits ++ p.letter ∷ p.behind
    → (whole ≡ true → p.letter ≡ 83) → (point ≡ true → p.letter ≡ 46) → (comma ≡ true → p.letter ≡ 44)
    → let some : (ℕ × ℕ) × List ℕ = read_closed bytes p.number p.behind in
    let r : (ℕ × ℕ) × List ℕ =
    cond {A = (ℕ × ℕ) × List ℕ} whole ((p.number, 0), p.behind)
    (cond {A = (ℕ × ℕ) × List ℕ} point some (cond {A = (ℕ × ℕ) × List ℕ} comma some (no_seconds bytes))) in
    Begins IsSeconds bytes r.0 r.1
seconds_if bytes digits p true point comma n split is_whole is_point is_comma = (
  digits ++ 83 ∷ [],
  inl (inr (record { digits = digits; number = n; joined = refl }), refl),
  split ∙ ap (λ (c : ℕ). digits ++ c ∷ p.behind) (is_whole refl) ∙ sym (append_assoc digits (83 ∷ []) p.behind),
)
seconds_if bytes digits p false true comma n split is_whole is_point is_comma =
    closed_made bytes digits p _ n split (inl (ap (λ (c : ℕ). c ∷ []) (is_point refl))) refl
seconds_if bytes digits p false false true n split is_whole is_point is_comma =
    closed_made bytes digits p _ n split (inr (ap (λ (c : ℕ). c ∷ []) (is_comma refl))) refl
seconds_if bytes digits p false false false n split is_whole is_point is_comma = ([], inl (inl (refl, refl), refl), refl)

seconds_made : (bytes : List ℕ) (o : Option Peeked) → peek bytes ≡ o → Begins IsSeconds bytes (seconds_in bytes o).0 (seconds_in bytes o).1
seconds_made bytes None h = ([], inl (inl (refl, refl), refl), refl)
seconds_made bytes (Some p) h =
    let n = peek_sound bytes p h in
    seconds_if bytes n.0 p (p.letter == 83) (p.letter == 46) (p.letter == 44) n.1 n.2 (eqb-true p.letter 83) (eqb-true p.letter 46)
    (eqb-true p.letter 44)

seconds_sound : (bytes : List ℕ) → Begins IsSeconds bytes (read_seconds bytes).0 (read_seconds bytes).1
unfolding read_seconds
seconds_sound bytes = seconds_made bytes (peek bytes) refl

closed_at : (bytes fd rest : List ℕ) (number : ℕ) → AreDigits fd
    → read_closed bytes number (fd ++ 83 ∷ rest) ≡ ((number, millis_of fd), rest)
closed_at bytes fd rest number d =
    let front : front_digits (fd ++ 83 ∷ rest) ≡ fd = front_of fd (83 ∷ rest) d refl in
    let after : after_digits (fd ++ 83 ∷ rest) ≡ 83 ∷ rest = after_of fd (83 ∷ rest) d refl in
    rw (front, after) refl

seconds_count : (text rest : List ℕ) (value : ℕ) → IsCount (codes "S") text value → read_seconds (text ++ rest) ≡ ((value, 0), rest)
unfolding read_seconds
seconds_count text rest value c = rw (count_some 83 text rest value refl c) refl

seconds_point : (point digits fd rest : List ℕ) (value : ℕ) → IsPoint point → IsNumberOf32Bits digits value → AreDigits fd
    → read_seconds (digits ++ (point ++ (fd ++ 83 ∷ rest))) ≡ ((value, millis_of fd), rest)
unfolding read_seconds
seconds_point point digits fd rest value (inl h) n d = rw (h, peek_exact digits (fd ++ 83 ∷ rest) 46 value n refl)
    (closed_at _ fd rest value d)
seconds_point point digits fd rest value (inr h) n d = rw (h, peek_exact digits (fd ++ 83 ∷ rest) 44 value n refl)
    (closed_at _ fd rest value d)

decimal_split : (text rest : List ℕ) (value : ℕ × ℕ) (d : IsDecimal text value)
    → text ++ rest ≡ d.digits ++ (d.millis.point ++ (d.millis.digits ++ 83 ∷ rest))
decimal_split text rest value d =
    ap (λ (l : List ℕ). l ++ rest) (d.joined ∙ ap (λ (l : List ℕ). d.digits ++ (l ++ codes "S")) d.millis.joined) ∙ simp append_assoc refl

seconds_decimal : (text rest : List ℕ) (value : ℕ × ℕ) → IsDecimal text value → read_seconds (text ++ rest) ≡ (value, rest)
unfolding millis_of
seconds_decimal text rest value d =
    ap read_seconds (decimal_split text rest value d) ∙ seconds_point d.millis.point d.digits d.millis.digits rest value.0 d.millis.mark
    d.number d.millis.all_digits ∙ ap (λ (m : ℕ). ((value.0, m), rest)) (sym d.millis.value)

seconds_reach : (text rest : List ℕ) (value : ℕ × ℕ) → IsSeconds text value → length (read_seconds (text ++ rest)).1 ≤ length rest
seconds_reach text rest value (inl (inl none, zero_millis)) = let s = seconds_sound rest in
    rw none.0 (shrinks rest s.0 (read_seconds rest).1 s.2)
seconds_reach text rest value (inl (inr c, zero_millis)) = rw (seconds_count text rest value.0 c) (omega arith)
seconds_reach text rest value (inr d) = rw (seconds_decimal text rest value d) (omega arith)

zeros : (value : ℕ × ℕ) → value.0 ≡ 0 → value.1 ≡ 0 → (0, 0) ≡ value
zeros value a b = rw (a, b) refl

no_more : read_seconds [] ≡ ((0, 0), [])
unfolding read_seconds peek number_in
no_more = refl

seconds_exact : (text rest : List ℕ) (value : ℕ × ℕ) → IsSeconds text value → rest ≡ [] → read_seconds (text ++ rest) ≡ (value, rest)
seconds_exact text rest value (inl (inl none, zero_millis)) end =
    rw (none.0, end) (no_more ∙ ap (λ (v : ℕ × ℕ). (v, [])) (zeros value none.1 zero_millis))
seconds_exact text rest value (inl (inr c, zero_millis)) end = seconds_count text rest value.0 c
    ∙ ap (λ (m : ℕ). ((value.0, m), rest)) (sym zero_millis)
seconds_exact text rest value (inr d) end = seconds_decimal text rest value d

pub seconds_optional : Optional IsSeconds read_seconds (λ rest. rest ≡ [])
seconds_optional = record { sound = seconds_sound; reach = seconds_reach; exact = seconds_exact }

point_other : (other : ℕ) (point digits more : List ℕ) (value : ℕ) → (46 == other) ≡ false → (44 == other) ≡ false → IsPoint point
    → IsNumberOf32Bits digits value → NoCount other (digits ++ (point ++ more))
point_other other point digits more value p c (inl h) n = rw h (other_unit other (digits ++ 46 ∷ more) (seen value 46 more)
    (peek_exact digits more 46 value n refl) p)
point_other other point digits more value p c (inr h) n = rw h (other_unit other (digits ++ 44 ∷ more) (seen value 44 more)
    (peek_exact digits more 44 value n refl) c)

pub seconds_marks : (other : ℕ) → (83 == other) ≡ false → (46 == other) ≡ false → (44 == other) ≡ false → Marks IsSeconds (NoCount other)
seconds_marks other s p c text value (inl (count, zero_millis)) = count_marks 83 other refl s text value.0 count
seconds_marks other s p c text value (inr d) =
    inr (λ rest. rw (decimal_split text rest value d) (point_other other d.millis.point d.digits
    (d.millis.digits ++ 83 ∷ rest) value.0 p c d.millis.mark d.number))

-- ---- the clock

abbrev IsClockParts : List ℕ → ℕ × (ℕ × (ℕ × ℕ)) → Type 0
IsClockParts = IsBoth (IsPerhapsCount (codes "H")) (IsBoth (IsPerhapsCount (codes "M")) IsSeconds)

clock_parts : Optional IsClockParts read_clock_counts (λ rest. rest ≡ [])
clock_parts =
    let late = both_optional (IsPerhapsCount (codes "M")) IsSeconds (read_perhaps 77) read_seconds (NoCount 77) (λ rest. rest ≡ [])
    (count_optional 77 refl) seconds_optional (seconds_marks 77 refl refl refl) (nothing_left 77) in
    let ends = both_marks (IsPerhapsCount (codes "M")) IsSeconds (NoCount 72) (count_marks 77 72 refl refl)
    (seconds_marks 72 refl refl refl) in
    both_optional (IsPerhapsCount (codes "H")) _ (read_perhaps 72) (read_both (read_perhaps 77) read_seconds) (NoCount 72)
    (λ rest. rest ≡ []) (count_optional 72 refl) late ends (nothing_left 72)

parts_of : (text : List ℕ) (v : ℕ × (ℕ × (ℕ × ℕ))) (c : IsDurationClock text v)
    → IsClockParts (c.hour_text ++ (c.minute_text ++ c.second_text)) v
parts_of text v c =
    record {
      first = c.hour_text;
      second = c.minute_text ++ c.second_text;
      is_first = c.hours;
      is_second = record { first = c.minute_text; second = c.second_text; is_first = c.minutes; is_second = c.seconds; joined = refl };
      joined = refl;
    }

clock_if : (t : Bool) (b : ℕ) (bs : List ℕ) → (t ≡ true → b ≡ 84)
    → let r : (ℕ × (ℕ × (ℕ × ℕ))) × List ℕ = cond {A = (ℕ × (ℕ × (ℕ × ℕ))) × List ℕ} t (read_clock_counts bs) ((0, (0, (0, 0))), b ∷ bs) in
    Begins IsPerhapsClock (b ∷ bs) r.0 r.1
clock_if false b bs is = ([], inl (refl, refl), refl)
clock_if true b bs is =
    let parts = clock_parts.sound bs in (
      84 ∷ parts.0,
      inr (record {
        hour_text = parts.1.first;
        minute_text = parts.1.is_second.first;
        second_text = parts.1.is_second.second;
        hours = parts.1.is_first;
        minutes = parts.1.is_second.is_first;
        seconds = parts.1.is_second.is_second;
        joined = ap (λ (l : List ℕ). 84 ∷ l) (parts.1.joined ∙ ap (λ (l : List ℕ). parts.1.first ++ l) parts.1.is_second.joined);
      }),
      ap (λ (c : ℕ). c ∷ bs) (is refl) ∙ ap (λ (l : List ℕ). 84 ∷ l) parts.2,
    )

clock_sound : (bytes : List ℕ) → Begins IsPerhapsClock bytes (read_clock bytes).0 (read_clock bytes).1
clock_sound [] = ([], inl (refl, refl), refl)
clock_sound (b ∷ bs) = clock_if (b == 84) b bs (eqb-true b 84)

clock_split : (text rest : List ℕ) (v : ℕ × (ℕ × (ℕ × ℕ))) (c : IsDurationClock text v)
    → text ++ rest ≡ 84 ∷ ((c.hour_text ++ (c.minute_text ++ c.second_text)) ++ rest)
clock_split text rest v c = ap (λ (l : List ℕ). l ++ rest) c.joined

clock_reach : (text rest : List ℕ) (v : ℕ × (ℕ × (ℕ × ℕ))) → IsPerhapsClock text v → length (read_clock (text ++ rest)).1 ≤ length rest
clock_reach text rest v (inl none) = let s = clock_sound rest in rw none.0 (shrinks rest s.0 (read_clock rest).1 s.2)
clock_reach text rest v (inr c) = rw (clock_split text rest v c) (clock_parts.reach _ rest v (parts_of text v c))

clock_exact : (text rest : List ℕ) (v : ℕ × (ℕ × (ℕ × ℕ))) → IsPerhapsClock text v → rest ≡ [] → read_clock (text ++ rest) ≡ (v, rest)
clock_exact text rest v (inl none) end = rw (none.0, none.1, end) refl
clock_exact text rest v (inr c) end = ap read_clock (clock_split text rest v c) ∙ clock_parts.exact _ rest v (parts_of text v c) end

pub clock_optional : Optional IsPerhapsClock read_clock (λ rest. rest ≡ [])
clock_optional = record { sound = clock_sound; reach = clock_reach; exact = clock_exact }

pub clock_marks : (unit : ℕ) → Marks IsPerhapsClock (NoCount unit)
clock_marks unit text v (inl none) = inl none.0
clock_marks unit text v (inr c) = inr (λ rest. rw (clock_split text rest v c) (no_number unit 84 _ refl))
