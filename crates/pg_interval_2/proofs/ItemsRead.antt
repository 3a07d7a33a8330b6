-- What is read as an item stands in front.
use Rattle.std.proofs.Common.{◌≡◌, ℕ, ◌+◌, ◌<◌, ◌&&◌, ◌==◌, Bool, true, false, cond, nat_lt, List, [], ◌∷◌, ◌++◌, length, Option, Some}
use Rattle.std.proofs.Common.{None, refl, sym, ◌∙◌, ap, append_assoc, inl, inr, codes, eqb-true}
use Rattle.std.proofs.lemmas.Bool.{and_parts, ltb-true}
use Rattle.std.specs.Char.{is_ascii_alphabetic}
use Rattle.scan_core.specs.Blanks.{EndsWord}
use Rattle.scan_core.specs.Digits.{AreDigits}
use Rattle.scan_core.specs.Number.{IsSign, IsFraction, IsNumber}
use Rattle.pg_interval_2.specs.Clock.{IsClock, clock_counts}
use Rattle.scan_core.specs.Fronts.{front_digits, after_digits}
use Rattle.scan_core.proofs.FrontFacts.{leading_passes, leading_and_behind, front_are_digits, front_and_after}
use Rattle.pg_interval_2.specs.inside.Reading.{Numeral, read_sign, read_fraction}
use Rattle.pg_interval_2.specs.inside.ItemReading.{after_blanks, front_letters, after_letters, ends_word, ClockFields, NextItem, ClockItem}
use Rattle.pg_interval_2.specs.inside.ItemReading.{NamedItem, NoItem, read_byte, read_seconds, read_clock, named_item, read_named}
use Rattle.pg_interval_2.specs.inside.ItemReading.{read_behind_digits, read_item}
use Rattle.pg_interval_2.proofs.Numbers.{is_fraction, is_sign}
use Rattle.pg_interval_2.proofs.ItemFacts.{AreLetters, AreBlanks, are_skipped, ends_from}

-- a number stands in front, and letters behind blanks or none
pub record StandsNamed (bytes : List ℕ) (n : Numeral) (letters rest : List ℕ) : Type 0 where
  pub number : List ℕ
  pub blanks : List ℕ
  pub digits : IsNumber true n.negative n.whole n.fraction number
  pub blank : AreBlanks blanks
  pub some : 0 < length letters
  pub ascii : AreLetters letters
  pub ends : EndsWord rest
  pub split : bytes ≡ number ++ (blanks ++ (letters ++ rest))

-- a clock stands in front
pub record StandsClock (bytes : List ℕ) (fields : ClockFields) (rest : List ℕ) : Type 0 where
  pub word : List ℕ
  pub hours : AreDigits fields.hours
  pub minutes : AreDigits fields.minutes
  pub seconds : AreDigits fields.seconds
  pub fraction : AreDigits fields.fraction
  pub clock : IsClock word (clock_counts fields.negative fields.hours fields.minutes fields.seconds fields.fraction)
  pub ends : EndsWord rest
  pub split : bytes ≡ word ++ rest

-- what an answer of the reader says of the bytes
abbrev pub Stands : List ℕ → NextItem → Type 0
Stands bytes (ClockItem fields rest) = StandsClock bytes fields rest
Stands bytes (NamedItem n letters rest) = StandsNamed bytes n letters rest
Stands bytes NoItem = Unit {0}

-- ---- a number and letters

-- a test chooses an item or none
chosen : (t : Bool) (bytes : List ℕ) (item : NextItem) → (t ≡ true → Stands bytes item) → Stands bytes (cond t item NoItem)
chosen true bytes item h = h refl
chosen false bytes item h = tt

letters_stand : (bytes number rest : List ℕ) (n : Numeral) → IsNumber true n.negative n.whole n.fraction number → bytes ≡ number ++ rest
    → Stands bytes (named_item n (after_blanks rest))
letters_stand bytes number rest n digits split =
    let name = after_blanks rest in
    chosen (nat_lt 0 (length (front_letters name)) && ends_word (after_letters name)) bytes
    (NamedItem n (front_letters name) (after_letters name)) (λ test.
    let tests = and_parts (nat_lt 0 (length (front_letters name))) (ends_word (after_letters name)) test in
    let skip = are_skipped rest in
    record {
      number = number;
      blanks = skip.0;
      digits = digits;
      blank = skip.1;
      some = ltb-true 0 _ tests.0;
      ascii = leading_passes is_ascii_alphabetic name;
      ends = ends_from (after_letters name) tests.1;
      split = split ∙ ap (λ (l : List ℕ). number ++ l) (skip.2 ∙ ap (λ (l : List ℕ). skip.0 ++ l)
          (sym (leading_and_behind is_ascii_alphabetic name)));
    })

named_stands : (negative : Bool) (sign whole rest bytes : List ℕ) → IsSign true negative sign → AreDigits whole
    → bytes ≡ sign ++ (whole ++ rest)
    → Stands bytes (read_named negative whole rest)
unfolding read_named
named_stands negative sign whole rest bytes signed digits split =
    let fraction = read_fraction rest in
    let n : Numeral = record { negative = negative; whole = whole; fraction = fraction.0 } in
    chosen (nat_lt 0 (length whole + length fraction.0)) bytes (named_item n (after_blanks fraction.1)) (λ test.
    let point = is_fraction rest in
    let number = sign ++ (whole ++ point.0) in
    let joined : bytes ≡ number ++ fraction.1 =
    split ∙ ap (λ (l : List ℕ). sign ++ l) (ap (λ (l : List ℕ). whole ++ l) point.2 ∙ sym (append_assoc whole point.0 fraction.1))
    ∙ sym (append_assoc sign (whole ++ point.0) fraction.1) in
    letters_stand bytes number fraction.1 n (record {
      sign = sign;
      tail = point.0;
      signed = signed;
      digits = digits;
      point = point.1;
      some = ltb-true 0 _ test;
      joined = refl;
    }) joined)

-- ---- a clock

byte_if : (t : Bool) (b byte : ℕ) (bs rest : List ℕ) → (t ≡ true → b ≡ byte) → cond t (Some bs) None ≡ Some rest → b ∷ bs ≡ byte ∷ rest
byte_if true b byte bs rest is h = let first = is refl in let tails : bs ≡ rest = cc in cc
byte_if false b byte bs rest is h = cc

byte_in_front : (byte : ℕ) (bytes rest : List ℕ) → read_byte byte bytes ≡ Some rest → bytes ≡ byte ∷ rest
byte_in_front byte [] rest h = cc
byte_in_front byte (b ∷ bs) rest h = byte_if (b == byte) b byte bs rest (eqb-true b byte) h

pub fraction_digits : (fraction tail : List ℕ) → IsFraction fraction tail → AreDigits fraction
fraction_digits fraction tail (inl none) = rw none.0 tt
fraction_digits fraction tail (inr some) = some.0

-- behind the second colon, if there is one
seconds_stand : (negative : Bool) (sign hours minutes after bytes : List ℕ) (o : Option (List ℕ))
    → ((last : List ℕ) → o ≡ Some last → after ≡ 58 ∷ last) → IsSign true negative sign → AreDigits hours → AreDigits minutes
    → bytes ≡ sign ++ (hours ++ (codes ":" ++ (minutes ++ after)))
    → Stands bytes (read_seconds negative hours minutes o)
seconds_stand negative sign hours minutes after bytes None colon signed h m split = tt
seconds_stand negative sign hours minutes after bytes (Some last) colon signed h m split =
    let seconds = front_digits last in
    let behind = after_digits last in
    let fraction = read_fraction behind in
    let fields : ClockFields = record { negative = negative; hours = hours; minutes = minutes; seconds = seconds; fraction = fraction.0 } in
    chosen (nat_lt 0 (length hours) && (nat_lt 0 (length minutes) && (nat_lt 0 (length seconds) && ends_word fraction.1))) bytes
    (ClockItem fields fraction.1) (λ test.
    let first = and_parts (nat_lt 0 (length hours)) (nat_lt 0 (length minutes) && (nat_lt 0 (length seconds) && ends_word fraction.1)) test
    in
    let second = and_parts (nat_lt 0 (length minutes)) (nat_lt 0 (length seconds) && ends_word fraction.1) first.1 in
    let third = and_parts (nat_lt 0 (length seconds)) (ends_word fraction.1) second.1 in
    let point = is_fraction behind in
    let tail = seconds ++ point.0 in
    let word = sign ++ (hours ++ (codes ":" ++ (minutes ++ (codes ":" ++ tail)))) in
    let last_split : last ≡ tail ++ fraction.1 = sym (front_and_after last) ∙ ap (λ (l : List ℕ). seconds ++ l) point.2
    ∙ sym (append_assoc seconds point.0 fraction.1) in
    let joined : word ++ fraction.1 ≡ sign ++ (hours ++ (codes ":" ++ (minutes ++ (codes ":" ++ (tail ++ fraction.1))))) =
    append_assoc sign (hours ++ (codes ":" ++ (minutes ++ (codes ":" ++ tail)))) fraction.1
    ∙ ap (λ (l : List ℕ). sign ++ l) (append_assoc hours (codes ":" ++ (minutes ++ (codes ":" ++ tail))) fraction.1
    ∙ ap (λ (l : List ℕ). hours ++ (codes ":" ++ l)) (append_assoc minutes (codes ":" ++ tail) fraction.1)) in
    record {
      word = word;
      hours = h;
      minutes = m;
      seconds = front_are_digits last;
      fraction = fraction_digits fraction.0 point.0 point.1;
      clock = record {
        negative = negative;
        sign = sign;
        hours = hours;
        minutes = minutes;
        seconds = seconds;
        fraction = fraction.0;
        tail = point.0;
        signed = signed;
        hour_field = (ltb-true 0 _ first.0, h);
        minute_field = (ltb-true 0 _ second.0, m);
        second_field = (ltb-true 0 _ third.0, front_are_digits last);
        point = point.1;
        joined = refl;
        counted = refl;
      };
      ends = ends_from fraction.1 third.1;
      split = split ∙ ap (λ (l : List ℕ). sign ++ (hours ++ (codes ":" ++ (minutes ++ l))))
          (colon last refl ∙ ap (λ (l : List ℕ). codes ":" ++ l) last_split) ∙ sym joined;
    })

clock_stands : (negative : Bool) (sign hours rest bytes : List ℕ) → IsSign true negative sign → AreDigits hours
    → bytes ≡ sign ++ (hours ++ (codes ":" ++ rest))
    → Stands bytes (read_clock negative hours rest)
unfolding read_clock
clock_stands negative sign hours rest bytes signed digits split =
    seconds_stand negative sign hours (front_digits rest) (after_digits rest) bytes (read_byte 58 (after_digits rest))
    (byte_in_front 58 (after_digits rest)) signed digits (front_are_digits rest)
    (split ∙ ap (λ (l : List ℕ). sign ++ (hours ++ (codes ":" ++ l))) (sym (front_and_after rest)))

-- behind a sign and digits
behind_digits : (negative : Bool) (sign whole after bytes : List ℕ) (o : Option (List ℕ))
    → ((last : List ℕ) → o ≡ Some last → after ≡ 58 ∷ last) → IsSign true negative sign → AreDigits whole → bytes ≡ sign ++ (whole ++ after)
    → Stands bytes (read_behind_digits negative whole after o)
behind_digits negative sign whole after bytes None colon signed digits split =
    named_stands negative sign whole after bytes signed digits split
behind_digits negative sign whole after bytes (Some last) colon signed digits split =
    clock_stands negative sign whole last bytes signed digits (split ∙ ap (λ (l : List ℕ). sign ++ (whole ++ l)) (colon last refl))

-- what is read stands in front
pub item_stands : (bytes : List ℕ) → Stands bytes (read_item bytes)
unfolding read_item
item_stands bytes =
    let sign = is_sign true bytes in
    let body = (read_sign true bytes).1 in
    behind_digits (read_sign true bytes).0 sign.0 (front_digits body) (after_digits body) bytes (read_byte 58 (after_digits body))
    (byte_in_front 58 (after_digits body)) sign.1 (front_are_digits body)
    (sign.2 ∙ ap (λ (l : List ℕ). sign.0 ++ l) (sym (front_and_after body)))
