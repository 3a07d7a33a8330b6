-- Times are read: what is read is a time, and no longer front is one.
use Rattle.std.proofs.Common.{◌≡◌, ℕ, ℤ, List, [], ◌++◌, Option, Some, refl, sym, ◌∙◌, ap, subst, arith}
use Rattle.std.proofs.lemmas.Option.{option_and_then_some, some_pair_parts}
use Rattle.iso8601.specs.declared.types.Time.{Time}
use Rattle.scan_core.specs.Fields.{IsField}
use Rattle.iso8601.specs.Fields.{IsOrZero}
use Rattle.iso8601.specs.Times.{IsMilliseconds, IsOffset, IsTime}
use Rattle.iso8601.specs.inside.GrammarParts.{IsLater}
use Rattle.iso8601.specs.inside.TimeReading.{read_later, read_fraction, read_offset, read_both, read_tail, time_of, read_time}
use Rattle.iso8601.proofs.Longest.{Sound, Reach}
use Rattle.iso8601.proofs.FieldFacts.{joins, joins_three, field_exact, field_sound, marked_exact, marked_sound}
use Rattle.iso8601.proofs.Optional.{Optional, IsBoth, both_optional}
use Rattle.iso8601.proofs.TimeParts.{StopsField, StopsFraction, later_optional, fraction_optional, offset_optional, fraction_end}
use Rattle.iso8601.proofs.TimeParts.{seconds_end}

-- the seconds, the fraction and the offset
abbrev IsTail : List ℕ → ℕ × (ℕ × (ℤ × ℤ)) → Type 0
IsTail = IsBoth (IsOrZero (IsLater 60)) (IsBoth (IsOrZero IsMilliseconds) IsOffset)

ends_fraction : (rest : List ℕ) → rest ≡ [] → StopsFraction rest
ends_fraction rest end = rw end tt

ends_field : (rest : List ℕ) → rest ≡ [] → StopsField rest
ends_field rest end = rw end tt

tail_optional : Optional IsTail read_tail (λ rest. rest ≡ [])
unfolding read_tail
tail_optional =
    let behind = both_optional (IsOrZero IsMilliseconds) IsOffset read_fraction read_offset StopsFraction
    (λ rest. rest ≡ []) fraction_optional offset_optional fraction_end ends_fraction in
    both_optional (IsOrZero (IsLater 60)) (IsBoth (IsOrZero IsMilliseconds) IsOffset) (read_later 60)
    (read_both read_fraction read_offset) StopsField (λ rest. rest ≡ []) (later_optional 60) behind seconds_end ends_field

abbrev tail_values : Time → ℕ × (ℕ × (ℤ × ℤ))
tail_values t = (t.second, (t.millisecond, (t.tz_offset_hours, t.tz_offset_minutes)))

tail_of : (text : List ℕ) (t : Time) (is : IsTime text t) → IsTail (is.second_text ++ (is.fraction ++ is.offset)) (tail_values t)
tail_of text t is =
    record {
      first = is.second_text;
      second = is.fraction ++ is.offset;
      is_first = is.seconds;
      is_second = record { first = is.fraction; second = is.offset; is_first = is.fractions; is_second = is.offsets; joined = refl };
      joined = refl;
    }

-- a time of what was read
abbrev made : ℕ → ℕ → (ℕ × (ℕ × (ℤ × ℤ))) × List ℕ → Option (Time × List ℕ)
made hour minute t = Some (time_of hour minute t.0, t.1)

-- behind the hours and the minutes the tail is read
time_at : (text rest : List ℕ) (t : Time) (is : IsTime text t) → read_time (text ++ rest)
    ≡ made t.hour t.minute (read_tail ((is.second_text ++ (is.fraction ++ is.offset)) ++ rest))
unfolding read_time
time_at text rest t is =
    let tail : List ℕ = is.second_text ++ (is.fraction ++ is.offset) in
    let split : text ++ rest ≡ is.hour_text ++ (is.minute_text ++ (tail ++ rest)) = ap (λ (l : List ℕ). l ++ rest) is.joined
    ∙ joins_three is.hour_text is.minute_text tail rest in
    let hours = field_exact 2 0 24 is.hour_text (is.minute_text ++ (tail ++ rest)) t.hour is.hours in
    let minutes = marked_exact 58 2 0 59 refl (omega arith) is.minute_text (tail ++ rest) t.minute is.minutes in
    rw (split, hours, minutes) refl

pub time_reach : Reach IsTime read_time
time_reach text rest t is = rw (time_at text rest t is) (tail_optional.reach _ rest (tail_values t) (tail_of text t is))

pub time_exact : (text : List ℕ) (t : Time) → IsTime text t → read_time (text ++ []) ≡ Some (t, [])
time_exact text t is = time_at text [] t is ∙ ap (made t.hour t.minute) (tail_optional.exact _ [] (tail_values t) (tail_of text t is) refl)

pub one_time : (text : List ℕ) (a b : Time) → IsTime text a → IsTime text b → a ≡ b
one_time text a b is_a is_b = (some_pair_parts a b [] [] (sym (time_exact text a is_a) ∙ time_exact text b is_b)).0

-- a tail behind hours and minutes is a time
time_from : (hour minute : ℕ) (hour_text minute_text text : List ℕ) (v : ℕ × (ℕ × (ℤ × ℤ))) → IsField 2 0 24 hour_text hour
    → IsLater 59 minute_text minute → IsTail text v
    → IsTime (hour_text ++ (minute_text ++ text)) (time_of hour minute v)
time_from hour minute hour_text minute_text text v h m t =
    record {
      hour_text = hour_text;
      minute_text = minute_text;
      second_text = t.first;
      fraction = t.is_second.first;
      offset = t.is_second.second;
      hours = h;
      minutes = m;
      seconds = t.is_first;
      fractions = t.is_second.is_first;
      offsets = t.is_second.is_second;
      joined = ap (λ (l : List ℕ). hour_text ++ (minute_text ++ l)) (t.joined ∙ ap (λ (l : List ℕ). t.first ++ l) t.is_second.joined);
    }

pub time_sound : Sound IsTime read_time
unfolding read_time
time_sound bytes rest t h =
    option_and_then_some _ _ _ h (λ x found body. option_and_then_some _ _ _ body (λ y found_minute ready.
    let hours = field_sound 2 0 24 bytes x.1 x.0 found in
    let minutes = marked_sound 58 2 0 59 x.1 y.1 y.0 found_minute in
    let tail = tail_optional.sound y.1 in
    let parts = some_pair_parts _ _ _ _ ready in
    let text : List ℕ = hours.0 ++ (minutes.0 ++ tail.0) in
    let P : Time → Type 0 = λ v. IsTime text v in
    let split : bytes ≡ text ++ (read_tail y.1).1 = joins bytes hours.0 (minutes.0 ++ tail.0) x.1 (read_tail y.1).1 hours.2
    (joins x.1 minutes.0 tail.0 y.1 (read_tail y.1).1 minutes.2 tail.2) in (
      text,
      subst P parts.0 (time_from x.0 y.0 hours.0 minutes.0 tail.0 (read_tail y.1).0 hours.1 minutes.1 tail.1),
      split
          ∙ ap (λ (l : List ℕ). text ++ l) parts.1,
    )))
