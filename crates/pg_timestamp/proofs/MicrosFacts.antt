-- The digits of a fraction, which are passed one by one.
use Rattle.std.proofs.Common.{◌≡◌, ℕ, zero, suc, ◌+◌, ◌-◌, ◌*◌, ◌^◌, ◌<◌, ◌≤◌, true, false, List, [], ◌∷◌, length, length-append}
use Rattle.std.proofs.Common.{get_or, take, drop, sym, ◌∙◌, ap, subst, arith}
use Rattle.std.proofs.lemmas.List.{length-take-le, take-append-drop, take_more}
use Rattle.std.specs.Char.{is_ascii_digit}
use Rattle.scan_core.specs.Digits.{AreDigits, number_of}
use Rattle.scan_core.specs.Fronts.{front_digits, after_digits, NoDigitFirst}
use Rattle.scan_core.proofs.DigitFacts.{all_from_digits, digits-append, number_of-append}
use Rattle.scan_core.proofs.FrontFacts.{front_of, after_of, leading_skips}
use Rattle.pg_timestamp.specs.inside.Micros.{AreMicros}
use Rattle.pg_timestamp.proofs.TimeFacts.{scaled, six, six_digits_small, six_small}
use Rattle.pg_timestamp.proofs.YearFacts.{digit_is}

-- so many bytes in front are digits that write the number
pub record ArePassed (text : List ℕ) (len number : ℕ) : Type 0 where
  pub within : len ≤ length text
  pub few : len ≤ 6
  pub digits : AreDigits (take len text)
  pub number_is : number ≡ number_of (take len text)

one_digit : (d : ℕ) → true ≡ is_ascii_digit d → AreDigits (d ∷ []) × (number_of (d ∷ []) ≡ d - 48)
one_digit d is = let value = digit_is d is in ((value.0, tt), omega (arith, value.1))

digits_more : (text : List ℕ) (len : ℕ) → AreDigits (take len text) → len < length text → true ≡ is_ascii_digit (get_or text len 0)
    → AreDigits (take (len + 1) text)
digits_more text len digits more is =
    subst AreDigits (sym (take_more text len 0 more))
    (digits-append (take len text) (get_or text len 0 ∷ []) digits (one_digit (get_or text len 0) is).0)

number_more : (text : List ℕ) (len : ℕ) → len < length text → true ≡ is_ascii_digit (get_or text len 0)
    → number_of (take (len + 1) text) ≡ 10 * number_of (take len text) + (get_or text len 0 - 48)
number_more text len more is =
    let joined = number_of-append (take len text) (get_or text len 0 ∷ []) in
    let one = (one_digit (get_or text len 0) is).1 in
    ap number_of (take_more text len 0 more) ∙ joined ∙ rw one (omega arith)

pub passed_more : (text : List ℕ) (len number : ℕ) → ArePassed text len number → len < length text → (len ≡ 6 → ⊥)
    → true ≡ is_ascii_digit (get_or text len 0)
    → ArePassed text (len + 1) (10 * number + (get_or text len 0 - 48))
passed_more text len number p more few is =
    let most = p.few in
    record {
      within = omega (arith, more);
      few = omega (arith, most, few);
      digits = digits_more text len p.digits more is;
      number_is = ap (λ (n : ℕ). 10 * n + (get_or text len 0 - 48)) p.number_is
          ∙ sym (number_more text len more is);
    }

pub passed_small : (text : List ℕ) (len number : ℕ) → ArePassed text len number → number < 1_000_000
passed_small text len number p =
    let long = length-take-le len text p.within in
    let few = p.few in
    let small = six_digits_small (take len text) p.digits (omega (arith, long, few)) in
    let is = p.number_is in omega (arith, small, is)

-- ---- what stands in front

-- where passing ends, no digit is in front
pub ends_at : (text : List ℕ) (len : ℕ) → (len < length text → is_ascii_digit (get_or text len 0) ≡ false) → NoDigitFirst (drop len text)
ends_at [] zero h = tt
ends_at [] (suc n) h = tt
ends_at (b ∷ bs) zero h = h (omega arith)
ends_at (b ∷ bs) (suc n) h = ends_at bs n (λ l. h (omega (arith, l)))

front_is : (text : List ℕ) (len : ℕ) → AreDigits (take len text) → NoDigitFirst (drop len text) → front_digits text ≡ take len text
front_is text len digits ends =
    ap front_digits (sym (take-append-drop len text)) ∙ front_of (take len text) (drop len text) digits ends

pub after_is : (text : List ℕ) (len number : ℕ) → ArePassed text len number → NoDigitFirst (drop len text) → drop len text ≡ after_digits text
after_is text len number p ends =
    sym (ap after_digits (sym (take-append-drop len text)) ∙ after_of (take len text) (drop len text) p.digits ends)

-- one to six digits, by the number that was passed
pub micros_are : (text : List ℕ) (len number power : ℕ) → ArePassed text len number → NoDigitFirst (drop len text) → (len ≡ 0 → ⊥)
    → power ≡ 10 ^ (6 - len)
    → AreMicros (front_digits text) (number * power) × (number * power < 1_000_000)
micros_are text len number power p ends some power_is =
    let long = length-take-le len text p.within in
    let few = p.few in
    let value : number * power ≡ number_of (six (take len text)) =
    rw (p.number_is, power_is) (ap (λ (n : ℕ). number_of (take len text) * 10 ^ (6 - n)) (sym long) ∙ scaled (take len text)) in
    let small = six_small (take len text) p.digits (omega (arith, long, few)) in
    let are : AreMicros (take len text) (number * power) = ((omega (arith, long, some), omega (arith, long, few)), value) in
    let A : List ℕ → Type 0 = λ l. AreMicros l (number * power) in (
      subst A (sym (front_is text len p.digits ends)) are,
      omega (arith, small, value),
    )

pub none_in_front : (text : List ℕ) (micros : ℕ) → NoDigitFirst (drop 0 text) → AreMicros (front_digits text) micros → ⊥
none_in_front text micros ends are =
    let none = ap length (front_is text 0 tt ends) in
    let some = are.0.0 in omega (arith, none, some)

pub seven_in_front : (text : List ℕ) (number micros : ℕ) → ArePassed text 6 number → 6 < length text → true ≡ is_ascii_digit (get_or text 6 0)
    → AreMicros (front_digits text) micros
    → ⊥
seven_in_front text number micros p more is are =
    let seven = digits_more text 6 p.digits more is in
    let front = ap length (ap front_digits (sym (take-append-drop 7 text))
    ∙ leading_skips is_ascii_digit (take 7 text) (drop 7 text) (all_from_digits (take 7 text) seven)) in
    let long = length-take-le 7 text (omega (arith, more)) in
    let joined = length-append (take 7 text) (front_digits (drop 7 text)) in
    let most = are.0.1 in omega (arith, front, long, joined, most)
