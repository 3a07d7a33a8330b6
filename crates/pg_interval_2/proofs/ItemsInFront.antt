-- An item that stands in front is read.
use Rattle.std.proofs.Common.{◌≡◌, ℕ, ◌+◌, ◌<◌, Bool, true, List, [], ◌∷◌, ◌++◌, length, Some, None, refl, sym, ◌∙◌, ap, append_assoc}
use Rattle.std.proofs.Common.{append-nil, arith, inl, inr, codes, lt-ltb}
use Rattle.scan_core.specs.Blanks.{is_blank, EndsWord}
use Rattle.scan_core.specs.Count.{Count}
use Rattle.scan_core.specs.Number.{IsFraction, IsNumber}
use Rattle.pg_interval_2.specs.Clock.{IsClock}
use Rattle.scan_core.specs.Digits.{AreSomeDigits}
use Rattle.pg_interval_2.specs.inside.Reading.{read_sign}
use Rattle.scan_core.specs.Fronts.{NoDigitFirst}
use Rattle.scan_core.proofs.FrontFacts.{behind_skips, front_of, after_of}
use Rattle.pg_interval_2.specs.inside.ItemReading.{after_blanks, ClockItem, NamedItem, NoItem, read_byte, read_seconds, read_clock}
use Rattle.pg_interval_2.specs.inside.ItemReading.{named_item, read_named, read_item}
use Rattle.pg_interval_2.proofs.Numbers.{NoPointFirst, NoSignFirst, fraction_of, sign_of, digits_no_sign, tail_no_digit}
use Rattle.pg_interval_2.proofs.ItemFacts.{AreLetters, AreBlanks, first_letter, first_blank, blank_is_no, letter_is_no, front_letters_of}
use Rattle.pg_interval_2.proofs.ItemFacts.{after_letters_of, no_skip, ends_test}

-- ---- what may follow a number or a clock

-- the text doesn't begin with a digit, a point or a colon
pub record ClosesNumber (rest : List ℕ) : Type 0 where
  pub digit : NoDigitFirst rest
  pub point : NoPointFirst rest
  pub colon : read_byte 58 rest ≡ None

pub end_closes : (rest : List ℕ) → EndsWord rest → ClosesNumber rest
end_closes [] e = record { digit = tt; point = tt; colon = refl }
end_closes (b ∷ bs) e = let other = blank_is_no b e in record {
  digit = other.0;
  point = other.1;
  colon = (let colon = other.2 in rw colon refl);
}

letters_close : (letters rest : List ℕ) → 0 < length letters → AreLetters letters → ClosesNumber (letters ++ rest)
letters_close [] rest some l = absurd (omega arith)
letters_close (c ∷ cs) rest some l = let other = letter_is_no c (first_letter c cs l) in
    record { digit = other.0; point = other.1; colon = (let colon = other.2 in rw colon refl) }

blanks_close : (blanks letters rest : List ℕ) → AreBlanks blanks → 0 < length letters → AreLetters letters
    → ClosesNumber (blanks ++ (letters ++ rest))
blanks_close [] letters rest blank some l = letters_close letters rest some l
blanks_close (b ∷ bs) letters rest blank some l = end_closes (b ∷ (bs ++ (letters ++ rest))) (first_blank b bs blank)

-- ---- a number

tail_no_colon : (fraction tail rest : List ℕ) → IsFraction fraction tail → read_byte 58 rest ≡ None → read_byte 58 (tail ++ rest) ≡ None
tail_no_colon fraction tail rest (inl none) colon = rw none.1 colon
tail_no_colon fraction tail rest (inr point) colon = rw point.1 refl

-- a number in front of anything that closes it
pub number_read : (negative : Bool) (whole fraction number rest : List ℕ) → IsNumber true negative whole fraction number → ClosesNumber rest
    → read_item (number ++ rest) ≡ named_item (record { negative = negative; whole = whole; fraction = fraction }) (after_blanks rest)
unfolding read_item read_named
number_read negative whole fraction number rest h closes =
    let body = whole ++ (h.tail ++ rest) in
    let split : number ++ rest ≡ h.sign ++ body = ap (λ (l : List ℕ). l ++ rest) h.joined ∙ append_assoc h.sign (whole ++ h.tail) rest
    ∙ ap (λ (l : List ℕ). h.sign ++ l) (append_assoc whole h.tail rest) in
    let signed = sign_of true negative h.sign body h.signed (digits_no_sign whole fraction h.tail rest h.digits h.point h.some) in
    let sign : read_sign true (number ++ rest) ≡ (negative, body) = ap (read_sign true) split ∙ signed in
    let no_digit = tail_no_digit fraction h.tail rest h.point closes.digit in
    let front = front_of whole (h.tail ++ rest) h.digits no_digit in
    let after = after_of whole (h.tail ++ rest) h.digits no_digit in
    let colon = tail_no_colon fraction h.tail rest h.point closes.colon in
    let behind = fraction_of fraction h.tail rest h.point closes.digit closes.point in
    let some = lt-ltb 0 (length whole + length fraction) h.some in
    rw (sign, front, after, colon, behind, some) refl

-- a number alone is no item
pub number_alone : (negative : Bool) (whole fraction number : List ℕ) → IsNumber true negative whole fraction number
    → read_item number ≡ NoItem
number_alone negative whole fraction number h = ap read_item (sym (append-nil number))
    ∙ number_read negative whole fraction number [] h (end_closes [] tt)

-- a number with letters, behind blanks or none
pub named_read : (negative : Bool) (whole fraction number blanks letters rest : List ℕ) → IsNumber true negative whole fraction number
    → AreBlanks blanks → 0 < length letters → AreLetters letters → EndsWord rest
    → read_item (number ++ (blanks ++ (letters ++ rest)))
    ≡ NamedItem (record { negative = negative; whole = whole; fraction = fraction }) letters rest
named_read negative whole fraction number blanks letters rest h blank some l ends =
    let read = number_read negative whole fraction number (blanks ++ (letters ++ rest)) h (blanks_close blanks letters rest blank some l) in
    let skip = behind_skips is_blank blanks (letters ++ rest) blank ∙ no_skip letters rest some l in
    let front = front_letters_of letters rest l ends in
    let after = after_letters_of letters rest l ends in
    let counted = lt-ltb 0 (length letters) some in
    let ended = ends_test rest ends in
    read ∙ rw (skip, front, after, counted, ended) refl

-- ---- a clock

pub field_no_sign : (field rest : List ℕ) → AreSomeDigits field → NoSignFirst (field ++ rest)
field_no_sign field rest h = digits_no_sign field [] [] rest h.1 (inl (refl, refl)) (let some = h.0 in omega arith)

-- the seconds behind the second colon
seconds_read : (negative : Bool) (hours minutes seconds fraction tail rest : List ℕ) → AreSomeDigits hours → AreSomeDigits minutes
    → AreSomeDigits seconds
    → IsFraction fraction tail → EndsWord rest
    → read_seconds negative hours minutes (Some (seconds ++ (tail ++ rest)))
    ≡ ClockItem (record { negative = negative; hours = hours; minutes = minutes; seconds = seconds; fraction = fraction }) rest
seconds_read negative hours minutes seconds fraction tail rest h m s point ends =
    let closes = end_closes rest ends in
    let no_digit = tail_no_digit fraction tail rest point closes.digit in
    let front = front_of seconds (tail ++ rest) s.1 no_digit in
    let after = after_of seconds (tail ++ rest) s.1 no_digit in
    let behind = fraction_of fraction tail rest point closes.digit closes.point in
    let hour = lt-ltb 0 (length hours) h.0 in
    let minute = lt-ltb 0 (length minutes) m.0 in
    let second = lt-ltb 0 (length seconds) s.0 in
    let ended = ends_test rest ends in
    rw (front, after, behind, hour, minute, second, ended) refl

-- a clock in front, which ends
pub clock_read : (word rest : List ℕ) (counts : List Count) (h : IsClock word counts) → EndsWord rest
    → read_item (word ++ rest)
    ≡ ClockItem (record { negative = h.negative; hours = h.hours; minutes = h.minutes; seconds = h.seconds; fraction = h.fraction }) rest
unfolding read_item read_clock
clock_read word rest counts h ends =
    let last = h.seconds ++ (h.tail ++ rest) in
    let middle = codes ":" ++ (h.minutes ++ (codes ":" ++ last)) in
    let split : word ++ rest ≡ h.sign ++ (h.hours ++ middle) =
    ap (λ (l : List ℕ). l ++ rest) h.joined ∙ append_assoc h.sign
    (h.hours ++ (codes ":" ++ (h.minutes ++ (codes ":" ++ (h.seconds ++ h.tail))))) rest
    ∙ ap (λ (l : List ℕ). h.sign ++ l) (append_assoc h.hours (codes ":" ++ (h.minutes ++ (codes ":" ++ (h.seconds ++ h.tail)))) rest
    ∙ ap (λ (l : List ℕ). h.hours ++ (codes ":" ++ l)) (append_assoc h.minutes (codes ":" ++ (h.seconds ++ h.tail)) rest
    ∙ ap (λ (l : List ℕ). h.minutes ++ (codes ":" ++ l)) (append_assoc h.seconds h.tail rest))) in
    let signed = sign_of true h.negative h.sign (h.hours ++ middle) h.signed (field_no_sign h.hours middle h.hour_field) in
    let sign : read_sign true (word ++ rest) ≡ (h.negative, h.hours ++ middle) = ap (read_sign true) split ∙ signed in
    let front = front_of h.hours middle h.hour_field.1 refl in
    let after = after_of h.hours middle h.hour_field.1 refl in
    let front_minutes = front_of h.minutes (codes ":" ++ last) h.minute_field.1 refl in
    let after_minutes = after_of h.minutes (codes ":" ++ last) h.minute_field.1 refl in
    let behind = seconds_read h.negative h.hours h.minutes h.seconds h.fraction h.tail rest h.hour_field h.minute_field h.second_field
    h.point ends in
    rw (sign, front, after, front_minutes, after_minutes) behind
