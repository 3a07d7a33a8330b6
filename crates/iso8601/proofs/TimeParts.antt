-- The parts of a time that may be left out: seconds, the fraction, the offset.
use Rattle.std.proofs.Common.{◌≡◌, ℕ, ℤ, ◌≤◌, ◌⊎◌, ◌==◌, Bool, true, false, cond, List, [], ◌∷◌, ◌++◌, length, Option, Some, None, refl}
use Rattle.std.proofs.Common.{sym, ◌∙◌, ap, append_assoc, append-nil, arith, inl, inr}
use Rattle.std.proofs.lemmas.Bool.{eqb-true}
use Rattle.std.specs.Char.{is_ascii_digit}
use Rattle.scan_core.specs.Digits.{AreDigits}
use Rattle.scan_core.specs.Number.{sign_text}
use Rattle.scan_core.specs.Shares.{signed}
use Rattle.scan_core.proofs.DigitFacts.{test_from_digit}
use Rattle.scan_core.proofs.FrontFacts.{front_of, after_of, front_are_digits, front_and_after}
use Rattle.iso8601.specs.Fields.{IsOrZero}
use Rattle.iso8601.specs.Prefixes.{Begins}
use Rattle.iso8601.specs.Times.{IsMilliseconds, IsSignedOffset, IsOffset}
use Rattle.iso8601.specs.inside.GrammarParts.{IsPoint, IsLater}
use Rattle.iso8601.specs.inside.Reading.{read_field, read_marked}
use Rattle.scan_core.specs.Fronts.{front_digits, after_digits, NoDigitFirst}
use Rattle.iso8601.specs.inside.TimeReading.{read_later, millis_of, read_fraction, no_offset, with_minutes, read_signed, read_offset}
use Rattle.iso8601.proofs.FieldFacts.{field_exact, field_sound, marked_exact, marked_sound, marked_none}
use Rattle.iso8601.proofs.Optional.{Optional, Marks, IsBoth, both_marks, optional_when, shrinks, zero_optional}

-- ---- perhaps a colon and two digits

-- the text begins with no digit and no colon
abbrev pub StopsField : List ℕ → Type 0
StopsField [] = Unit {0}
StopsField (b ∷ bs) = (is_ascii_digit b ≡ false) × ((b == 58) ≡ false)

pub stops_later : (hi : ℕ) (rest : List ℕ) → StopsField rest → read_marked 58 2 0 hi rest ≡ None
stops_later hi [] s = marked_none 58 0 hi [] tt tt
stops_later hi (b ∷ bs) s = marked_none 58 0 hi (b ∷ bs) s.1 s.0

pub later_optional : (hi : ℕ) → Optional (IsOrZero (IsLater hi)) (read_later hi) StopsField
unfolding read_later
later_optional hi =
    optional_when (IsOrZero (IsLater hi)) (read_later hi) (λ rest. read_marked 58 2 0 hi rest ≡ None) StopsField (stops_later hi)
    (zero_optional (IsLater hi) (read_marked 58 2 0 hi) (marked_sound 58 2 0 hi) (marked_exact 58 2 0 hi refl (omega arith)))

-- ---- the fraction

-- the text begins with no digit and no point
abbrev pub StopsFraction : List ℕ → Type 0
StopsFraction [] = Unit {0}
StopsFraction (b ∷ bs) = (is_ascii_digit b ≡ false) × ((b == 46) ≡ false) × ((b == 44) ≡ false)

-- digits in front of more, which may begin with digits
front_joined : (digits rest : List ℕ) → AreDigits digits → front_digits (digits ++ rest) ≡ digits ++ front_digits rest
front_joined [] rest d = refl
front_joined (c ∷ cs) rest d = let yes = test_from_digit c d.0 in rw yes (ap (λ (ds : List ℕ). c ∷ ds) (front_joined cs rest d.1))

after_joined : (digits rest : List ℕ) → AreDigits digits → after_digits (digits ++ rest) ≡ after_digits rest
after_joined [] rest d = refl
after_joined (c ∷ cs) rest d = let yes = test_from_digit c d.0 in rw yes (after_joined cs rest d.1)

pub made_fraction : (point : ℕ) (bs : List ℕ) → IsPoint (point ∷ [])
    → Begins (IsOrZero IsMilliseconds) (point ∷ bs) (millis_of (front_digits bs)) (after_digits bs)
unfolding millis_of
made_fraction point bs is = (
  point ∷ front_digits bs,
  inr (record { point = point ∷ []; digits = front_digits bs; mark = is; all_digits = front_are_digits bs; joined = refl; value = refl }),
  ap (λ (l : List ℕ). point ∷ l) (sym (front_and_after bs)),
)

fraction_if : (point comma : Bool) (b : ℕ) (bs : List ℕ) → (point ≡ true → b ≡ 46) → (comma ≡ true → b ≡ 44)
    → let some : ℕ × List ℕ = (millis_of (front_digits bs), after_digits bs) in
    let r : ℕ × List ℕ = cond {A = ℕ × List ℕ} point some (cond {A = ℕ × List ℕ} comma some (0, b ∷ bs)) in
    Begins (IsOrZero IsMilliseconds) (b ∷ bs) r.0 r.1
fraction_if true comma b bs is_point is_comma = made_fraction b bs (inl (ap (λ (c : ℕ). c ∷ []) (is_point refl)))
fraction_if false true b bs is_point is_comma = made_fraction b bs (inr (ap (λ (c : ℕ). c ∷ []) (is_comma refl)))
fraction_if false false b bs is_point is_comma = ([], inl (refl, refl), refl)

pub fraction_sound : (bytes : List ℕ) → Begins (IsOrZero IsMilliseconds) bytes (read_fraction bytes).0 (read_fraction bytes).1
fraction_sound [] = ([], inl (refl, refl), refl)
fraction_sound (b ∷ bs) = fraction_if (b == 46) (b == 44) b bs (eqb-true b 46) (eqb-true b 44)

behind_point : (point bs : List ℕ) → IsPoint point → read_fraction (point ++ bs) ≡ (millis_of (front_digits bs), after_digits bs)
behind_point point bs (inl h) = rw h refl
behind_point point bs (inr h) = rw h refl

pub fraction_at : (text rest : List ℕ) (value : ℕ) (f : IsMilliseconds text value)
    → read_fraction (text ++ rest) ≡ (millis_of (f.digits ++ front_digits rest), after_digits rest)
fraction_at text rest value f =
    let split : text ++ rest ≡ f.point ++ (f.digits ++ rest) = ap (λ (x : List ℕ). x ++ rest) f.joined
    ∙ append_assoc f.point f.digits rest in
    rw (
      split,
      behind_point f.point (f.digits ++ rest) f.mark,
      front_joined f.digits rest f.all_digits,
      after_joined f.digits rest f.all_digits,
    ) refl

fraction_reach : (text rest : List ℕ) (value : ℕ) → (IsOrZero IsMilliseconds) text value
    → length (read_fraction (text ++ rest)).1 ≤ length rest
fraction_reach text rest value (inl none) = let s = fraction_sound rest in rw none.0 (shrinks rest s.0 (read_fraction rest).1 s.2)
fraction_reach text rest value (inr f) = rw (fraction_at text rest value f)
    (shrinks rest (front_digits rest) (after_digits rest) (sym (front_and_after rest)))

no_point : (rest : List ℕ) → StopsFraction rest → read_fraction rest ≡ (0, rest)
no_point [] s = refl
no_point (b ∷ bs) s = rw (s.1, s.2) refl

no_digits : (rest : List ℕ) → StopsFraction rest → NoDigitFirst rest
no_digits [] s = tt
no_digits (b ∷ bs) s = s.0

fraction_exact : (text rest : List ℕ) (value : ℕ) → (IsOrZero IsMilliseconds) text value → StopsFraction rest
    → read_fraction (text ++ rest) ≡ (value, rest)
unfolding millis_of
fraction_exact text rest value (inl none) s = rw (none.0, none.1) (no_point rest s)
fraction_exact text rest value (inr f) s =
    rw (
      fraction_at text rest value f,
      front_of [] rest tt (no_digits rest s),
      after_of [] rest tt (no_digits rest s),
      append-nil f.digits,
      f.value,
    ) refl

pub fraction_optional : Optional (IsOrZero IsMilliseconds) read_fraction StopsFraction
fraction_optional = record { sound = fraction_sound; reach = fraction_reach; exact = fraction_exact }

-- ---- the offset

with_minutes_made : (negative : Bool) (b : ℕ) (bs : List ℕ) (o : Option (ℕ × List ℕ)) → sign_text negative ≡ b ∷ []
    → read_field 2 0 24 bs ≡ o
    → Begins IsOffset (b ∷ bs) (with_minutes negative (b ∷ bs) o).0 (with_minutes negative (b ∷ bs) o).1
with_minutes_made negative b bs None sign h = ([], inl (refl, refl), refl)
with_minutes_made negative b bs (Some r) sign h =
    let hours = field_sound 2 0 24 bs r.1 r.0 h in
    let minutes = (later_optional 59).sound r.1 in (
      sign_text negative ++ (hours.0 ++ minutes.0),
      inr (inr (record {
        negative = negative;
        hour_text = hours.0;
        minute_text = minutes.0;
        hour = r.0;
        minute = (read_later 59 r.1).0;
        hours = hours.1;
        minutes = minutes.1;
        joined = refl;
        value = refl;
      })),
      rw sign (ap (λ (l : List ℕ). b ∷ l) (hours.2 ∙ ap (λ (l : List ℕ). hours.0 ++ l) minutes.2
          ∙ sym (append_assoc hours.0 minutes.0 (read_later 59 r.1).1))),
    )

signed_made : (negative : Bool) (b : ℕ) (bs : List ℕ) → sign_text negative ≡ b ∷ []
    → Begins IsOffset (b ∷ bs) (read_signed negative (b ∷ bs) bs).0 (read_signed negative (b ∷ bs) bs).1
unfolding read_signed
signed_made negative b bs sign = with_minutes_made negative b bs (read_field 2 0 24 bs) sign refl

offset_if : (utc minus plus : Bool) (b : ℕ) (bs : List ℕ) → (utc ≡ true → b ≡ 90) → (minus ≡ true → b ≡ 45) → (plus ≡ true → b ≡ 43)
    → let r : (ℤ × ℤ) × List ℕ =
    cond {A = (ℤ × ℤ) × List ℕ} utc (no_offset bs) (cond {A = (ℤ × ℤ) × List ℕ} minus (read_signed true (b ∷ bs) bs)
    (cond {A = (ℤ × ℤ) × List ℕ} plus (read_signed false (b ∷ bs) bs) (no_offset (b ∷ bs)))) in
    Begins IsOffset (b ∷ bs) r.0 r.1
offset_if true minus plus b bs is_utc is_minus is_plus = (90 ∷ [], inr (inl (refl, refl)), ap (λ (c : ℕ). c ∷ bs) (is_utc refl))
offset_if false true plus b bs is_utc is_minus is_plus = signed_made true b bs (ap (λ (c : ℕ). c ∷ []) (sym (is_minus refl)))
offset_if false false true b bs is_utc is_minus is_plus = signed_made false b bs (ap (λ (c : ℕ). c ∷ []) (sym (is_plus refl)))
offset_if false false false b bs is_utc is_minus is_plus = ([], inl (refl, refl), refl)

offset_sound : (bytes : List ℕ) → Begins IsOffset bytes (read_offset bytes).0 (read_offset bytes).1
offset_sound [] = ([], inl (refl, refl), refl)
offset_sound (b ∷ bs) = offset_if (b == 90) (b == 45) (b == 43) b bs (eqb-true b 90) (eqb-true b 45) (eqb-true b 43)

behind_sign : (negative : Bool) (bs : List ℕ) → read_offset (sign_text negative ++ bs) ≡ read_signed negative (sign_text negative ++ bs) bs
behind_sign true bs = refl
behind_sign false bs = refl

offset_at : (text rest : List ℕ) (value : ℤ × ℤ) (o : IsSignedOffset text value)
    → read_offset (text ++ rest) ≡ (
      (signed o.negative o.hour, signed o.negative (read_later 59 (o.minute_text ++ rest)).0),
      (read_later 59 (o.minute_text ++ rest)).1,
    )
unfolding read_signed
offset_at text rest value o =
    let split : text ++ rest ≡ sign_text o.negative ++ (o.hour_text ++ (o.minute_text ++ rest)) =
    ap (λ (x : List ℕ). x ++ rest) o.joined ∙ append_assoc (sign_text o.negative) (o.hour_text ++ o.minute_text) rest
    ∙ ap (λ (x : List ℕ). sign_text o.negative ++ x) (append_assoc o.hour_text o.minute_text rest) in
    rw (
      split,
      behind_sign o.negative (o.hour_text ++ (o.minute_text ++ rest)),
      field_exact 2 0 24 o.hour_text (o.minute_text ++ rest) o.hour o.hours,
    ) refl

offset_reach : (text rest : List ℕ) (value : ℤ × ℤ) → IsOffset text value → length (read_offset (text ++ rest)).1 ≤ length rest
offset_reach text rest value (inl none) = let s = offset_sound rest in rw none.0 (shrinks rest s.0 (read_offset rest).1 s.2)
offset_reach text rest value (inr (inl utc)) = rw utc.0 (omega arith)
offset_reach text rest value (inr (inr o)) = rw (offset_at text rest value o)
    ((later_optional 59).reach o.minute_text rest o.minute o.minutes)

offset_exact : (text rest : List ℕ) (value : ℤ × ℤ) → IsOffset text value → rest ≡ [] → read_offset (text ++ rest) ≡ (value, rest)
offset_exact text rest value (inl none) end = rw (none.0, none.1, end) refl
offset_exact text rest value (inr (inl utc)) end = rw (utc.0, utc.1) refl
offset_exact text rest value (inr (inr o)) end =
    let stops : StopsField rest = rw end tt in
    rw (offset_at text rest value o, (later_optional 59).exact o.minute_text rest o.minute o.minutes stops, o.value) refl

pub offset_optional : Optional IsOffset read_offset (λ rest. rest ≡ [])
offset_optional = record { sound = offset_sound; reach = offset_reach; exact = offset_exact }

-- ---- each part begins with a byte that ends those before it

signed_marks : (negative : Bool) (bs : List ℕ) → StopsFraction (sign_text negative ++ bs) × StopsField (sign_text negative ++ bs)
signed_marks true bs = ((refl, refl, refl), (refl, refl))
signed_marks false bs = ((refl, refl, refl), (refl, refl))

offset_marks : (text : List ℕ) (value : ℤ × ℤ) → IsOffset text value → (text ≡ [])
    ⊎ ((rest : List ℕ) → StopsFraction (text ++ rest) × StopsField (text ++ rest))
offset_marks text value (inl none) = inl none.0
offset_marks text value (inr (inl utc)) = inr (λ rest. rw utc.0 ((refl, refl, refl), (refl, refl)))
offset_marks text value (inr (inr o)) =
    inr (λ rest.
    let split : text ++ rest ≡ sign_text o.negative ++ ((o.hour_text ++ o.minute_text) ++ rest) = ap (λ (x : List ℕ). x ++ rest) o.joined
    ∙ append_assoc (sign_text o.negative) (o.hour_text ++ o.minute_text) rest in
    rw split (signed_marks o.negative ((o.hour_text ++ o.minute_text) ++ rest)))

pub fraction_end : Marks IsOffset StopsFraction
fraction_end text value o =
    elim (offset_marks text value o) [
      | inl none ↦ inl none
      | inr marks ↦ inr (λ rest. (marks rest).0)
    ]

point_marks : (point bs : List ℕ) → IsPoint point → StopsField (point ++ bs)
point_marks point bs (inl h) = rw h (refl, refl)
point_marks point bs (inr h) = rw h (refl, refl)

fraction_marks : Marks (IsOrZero IsMilliseconds) StopsField
fraction_marks text value (inl none) = inl none.0
fraction_marks text value (inr f) =
    inr (λ rest.
    let split : text ++ rest ≡ f.point ++ (f.digits ++ rest) = ap (λ (x : List ℕ). x ++ rest) f.joined
    ∙ append_assoc f.point f.digits rest in
    rw split (point_marks f.point (f.digits ++ rest) f.mark))

offset_stops : Marks IsOffset StopsField
offset_stops text value o =
    elim (offset_marks text value o) [
      | inl none ↦ inl none
      | inr marks ↦ inr (λ rest. (marks rest).1)
    ]

pub seconds_end : Marks (IsBoth (IsOrZero IsMilliseconds) IsOffset) StopsField
seconds_end = both_marks (IsOrZero IsMilliseconds) IsOffset StopsField fraction_marks offset_stops
