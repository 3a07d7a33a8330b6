-- The words that an item is.
use Rattle.std.proofs.Common.{◌≡◌, ℕ, ◌<◌, ◌≤◌, Bool, true, false, List, [], ◌∷◌, ◌++◌, length, refl, sym, ◌∙◌, ap, length-append, arith}
use Rattle.std.proofs.Common.{inl, inr, codes}
use Rattle.std.specs.Char.{is_ascii_alphabetic, digit_value}
use Rattle.std.specs.List.{list_all}
use Rattle.std.proofs.lemmas.Bool.Decides.{nat_tests}
use Rattle.std.proofs.lemmas.Str.Parse.{digit_from_value}
use Rattle.std.proofs.lemmas.Bool.{and_parts}
use Rattle.scan_core.specs.Blanks.{is_blank, words, EndsWord}
use Rattle.scan_core.specs.Count.{Count}
use Rattle.scan_core.specs.Digits.{AreDigits}
use Rattle.scan_core.specs.Number.{IsSign, IsFraction, IsNumber}
use Rattle.scan_core.proofs.WordFacts.{NoBlanks, words-blank, words-first}
use Rattle.pg_interval_2.specs.Clock.{IsClock}
use Rattle.pg_interval_2.specs.inside.ItemReading.{after_blanks}
use Rattle.pg_interval_2.proofs.ItemFacts.{AreLetters, AreBlanks, letter_no_blank, are_skipped}

-- ---- bytes that aren't blank

pub no_blanks-append : (xs ys : List ℕ) → NoBlanks xs → NoBlanks ys → NoBlanks (xs ++ ys)
no_blanks-append [] ys h k = k
no_blanks-append (x ∷ xs) ys h k = (h.0, no_blanks-append xs ys h.1 k)

digit_no_blank : (b : ℕ) → digit_value b < 10 → is_blank b ≡ false
digit_no_blank b h = let r = digit_from_value b h in grind (arith, nat_tests)

pub digits_no_blanks : (digits : List ℕ) → AreDigits digits → NoBlanks digits
digits_no_blanks [] h = tt
digits_no_blanks (c ∷ cs) h = (digit_no_blank c h.0, digits_no_blanks cs h.1)

pub letters_no_blanks : (letters : List ℕ) → AreLetters letters → NoBlanks letters
letters_no_blanks [] h = tt
letters_no_blanks (c ∷ cs) h = let split = and_parts (is_ascii_alphabetic c) (list_all is_ascii_alphabetic cs) h in
    (letter_no_blank c split.0, letters_no_blanks cs split.1)

sign_no_blanks : (negative : Bool) (sign : List ℕ) → IsSign true negative sign → NoBlanks sign
sign_no_blanks true sign h = rw h (refl, tt)
sign_no_blanks false sign (inl none) = rw none tt
sign_no_blanks false sign (inr some) = let plus = some.1 in rw plus (refl, tt)

pub point_no_blanks : (fraction tail : List ℕ) → IsFraction fraction tail → NoBlanks tail
point_no_blanks fraction tail (inl none) = let nothing = none.1 in rw nothing tt
point_no_blanks fraction tail (inr some) = let point = some.1 in rw point (refl, digits_no_blanks fraction some.0)

pub number_no_blanks : (negative : Bool) (whole fraction word : List ℕ) → IsNumber true negative whole fraction word → NoBlanks word
number_no_blanks negative whole fraction word h =
    let joined = h.joined in
    rw joined (no_blanks-append h.sign (whole ++ h.tail) (sign_no_blanks negative h.sign h.signed)
    (no_blanks-append whole h.tail (digits_no_blanks whole h.digits) (point_no_blanks fraction h.tail h.point)))

pub clock_no_blanks : (word : List ℕ) (counts : List Count) → IsClock word counts → NoBlanks word
clock_no_blanks word counts h =
    let joined = h.joined in
    rw joined (no_blanks-append h.sign _ (sign_no_blanks h.negative h.sign h.signed)
    (no_blanks-append h.hours _ (digits_no_blanks h.hours h.hour_field.1) (
      refl,
      no_blanks-append h.minutes _ (digits_no_blanks h.minutes h.minute_field.1)
          (refl, no_blanks-append h.seconds _ (digits_no_blanks h.seconds h.second_field.1) (point_no_blanks h.fraction h.tail h.point)),
    )))

tail_some : (fraction tail : List ℕ) → IsFraction fraction tail → length fraction ≤ length tail
tail_some fraction tail (inl none) = let f = ap (λ (l : List ℕ). length l) none.0 in omega (arith, f)
tail_some fraction tail (inr some) = let t = ap (λ (l : List ℕ). length l) some.1 in omega (arith, t)

pub number_some : (negative : Bool) (whole fraction word : List ℕ) → IsNumber true negative whole fraction word → 0 < length word
number_some negative whole fraction word h =
    let joined = ap (λ (l : List ℕ). length l) h.joined ∙ length-append h.sign (whole ++ h.tail) in
    let body = length-append whole h.tail in
    let tail = tail_some fraction h.tail h.point in
    let some = h.some in
    omega (arith, joined, body, tail, some)

pub clock_some : (word : List ℕ) (counts : List Count) → IsClock word counts → 0 < length word
clock_some word counts h =
    let rest = codes ":" ++ (h.minutes ++ (codes ":" ++ (h.seconds ++ h.tail))) in
    let joined = ap (λ (l : List ℕ). length l) h.joined ∙ length-append h.sign (h.hours ++ rest) in
    let body = length-append h.hours rest in
    let some = h.hour_field.0 in
    omega (arith, joined, body, some)

-- ---- words in front

pub words_in_front : (word rest : List ℕ) → 0 < length word → NoBlanks word → EndsWord rest → words (word ++ rest) ≡ word ∷ words rest
words_in_front [] rest some h e = absurd (omega arith)
words_in_front (b ∷ word) rest some h e = words-first b word rest h e

pub words-blanks : (blanks rest : List ℕ) → AreBlanks blanks → words (blanks ++ rest) ≡ words rest
words-blanks [] rest h = refl
words-blanks (b ∷ bs) rest h = let split = and_parts (is_blank b) (list_all is_blank bs) h in
    words-blank b (bs ++ rest) split.0 ∙ words-blanks bs rest split.1

pub words-after_blanks : (rest : List ℕ) → words (after_blanks rest) ≡ words rest
words-after_blanks rest = let skip = are_skipped rest in sym (ap words skip.2 ∙ words-blanks skip.0 (after_blanks rest) skip.1)

-- the first word of bytes that begin with none
pub record FirstWord (bytes : List ℕ) : Type 0 where
  pub word : List ℕ
  pub rest : List ℕ
  pub some : 0 < length word
  pub solid : NoBlanks word
  pub ends : EndsWord rest
  pub split : bytes ≡ word ++ rest

word_if : (t : Bool) (b c : ℕ) (bs : List ℕ) → is_blank b ≡ false → is_blank c ≡ t → (is_blank c ≡ false → FirstWord (c ∷ bs))
    → FirstWord (b ∷ c ∷ bs)
word_if true b c bs first blank more = record {
  word = b ∷ [];
  rest = c ∷ bs;
  some = omega arith;
  solid = (first, tt);
  ends = blank;
  split = refl;
}
word_if false b c bs first blank more =
    let next = more blank in
    record {
      word = b ∷ next.word;
      rest = next.rest;
      some = omega arith;
      solid = (first, next.solid);
      ends = next.ends;
      split = ap (λ (l : List ℕ). b ∷ l) next.split;
    }

pub first_word : (b : ℕ) (bs : List ℕ) → is_blank b ≡ false → FirstWord (b ∷ bs)
first_word b [] h = record { word = b ∷ []; rest = []; some = omega arith; solid = (h, tt); ends = tt; split = refl }
first_word b (c ∷ bs) h = word_if (is_blank c) b c bs h refl (first_word c bs)
