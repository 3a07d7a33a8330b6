-- What begins no item spells nothing.
use Rattle.std.proofs.Common.{◌≡◌, ℕ, ◌==◌, Bool, true, false, cond, nat_lt, List, [], ◌∷◌, ◌++◌, length, Option, Some, None, refl, sym}
use Rattle.std.proofs.Common.{◌∙◌, ap, subst, append_assoc, append-nil, arith}
use Rattle.std.specs.Char.{is_ascii_alphabetic}
use Rattle.std.specs.List.{list_all}
use Rattle.std.proofs.lemmas.Bool.Decides.{nat_tests}
use Rattle.std.proofs.lemmas.Bool.{and_parts, ltb-true}
use Rattle.scan_core.specs.Blanks.{is_blank, words, EndsWord}
use Rattle.scan_core.specs.Count.{Count}
use Rattle.scan_core.specs.Number.{IsNumber}
use Rattle.pg_interval_2.specs.Clock.{clock_counts}
use Rattle.pg_interval_2.specs.inside.UnitPlaces.{has_distinct_units}
use Rattle.pg_interval_2.specs.inside.Reading.{Numeral, read_number}
use Rattle.pg_interval_2.specs.inside.ItemReading.{ClockFields, NextItem, ClockItem, NamedItem, NoItem, read_item, NumberWord, OtherWord}
use Rattle.pg_interval_2.specs.inside.ItemReading.{kind_from, word_kind, Verdict, Unspelled, judge_word, is_name, clock_of, verdict}
use Rattle.pg_interval_2.specs.inside.ItemReading.{after_blanks}
use Rattle.pg_interval_2.proofs.Numbers.{is_number}
use Rattle.pg_interval_2.proofs.ItemFacts.{AreBlanks, are_skipped}
use Rattle.pg_interval_2.proofs.ItemsInFront.{named_read, clock_read}
use Rattle.pg_interval_2.proofs.ItemsRead.{StandsClock, Stands, item_stands}
use Rattle.pg_interval_2.proofs.ItemWords.{clock_no_blanks, clock_some, words_in_front, words-after_blanks, first_word}
use Rattle.pg_interval_2.proofs.Verdicts.{Names, clock_kind, verdict-word, judge_pair}

ends_both : (xs ys : List ℕ) → EndsWord xs → EndsWord ys → EndsWord (xs ++ ys)
ends_both [] ys h k = k
ends_both (x ∷ xs) ys h k = h

solid_if : (t : Bool) (b x : ℕ) (bs xs rest : List ℕ) → is_blank b ≡ t → cond t rest (b ∷ bs) ≡ x ∷ xs
    → (rest ≡ x ∷ xs → is_blank x ≡ false)
    → is_blank x ≡ false
solid_if true b x bs xs rest is h below = below h
solid_if false b x bs xs rest is h below = let first : b ≡ x = cc in ap is_blank (sym first) ∙ is

-- what follows skipped blanks is none
pub after_solid : (bytes : List ℕ) (x : ℕ) (xs : List ℕ) → after_blanks bytes ≡ x ∷ xs → is_blank x ≡ false
after_solid [] x xs h = cc
after_solid (b ∷ bs) x xs h = solid_if (is_blank b) b x bs xs (after_blanks bs) refl h (after_solid bs x xs)

-- ---- a number, with what follows it

-- the name behind a number, as bytes
pub record StandsBehind (bytes : List ℕ) (name : List ℕ) : Type 0 where
  pub blanks : List ℕ
  pub rest : List ℕ
  pub blank : AreBlanks blanks
  pub ends : EndsWord rest
  pub split : bytes ≡ blanks ++ (name ++ rest)

next_if : (bytes : List ℕ) (name : List ℕ) (more : List (List ℕ)) (next : List ℕ) → after_blanks bytes ≡ next → words bytes ≡ name ∷ more
    → StandsBehind bytes name
next_if bytes name more [] is h =
    let none : [] ≡ name ∷ more = sym (ap words is) ∙ words-after_blanks bytes ∙ h in cc
next_if bytes name more (x ∷ xs) is h =
    let skip = are_skipped bytes in
    let first = first_word x xs (after_solid bytes x xs is) in
    let found : words (x ∷ xs) ≡ first.word ∷ words first.rest = ap words first.split
    ∙ words_in_front first.word first.rest first.some first.solid first.ends in
    let same : name ∷ more ≡ first.word ∷ words first.rest = sym h ∙ sym (words-after_blanks bytes) ∙ ap words is ∙ found in
    let word : first.word ≡ name = cc in
    record {
      blanks = skip.0;
      rest = first.rest;
      blank = skip.1;
      ends = first.ends;
      split = skip.2 ∙ ap (λ (l : List ℕ). skip.0 ++ l) (is ∙ first.split ∙ ap (λ (l : List ℕ). l ++ first.rest) word);
    }

-- the next word, as bytes
next_word : (bytes : List ℕ) (name : List ℕ) (more : List (List ℕ)) → words bytes ≡ name ∷ more → StandsBehind bytes name
next_word bytes name more h = next_if bytes name more (after_blanks bytes) refl h

name_test : (t : Bool) (other : Verdict) → (t ≡ true → ⊥) → cond t other Unspelled ≡ Unspelled
name_test true other h = absurd (h refl)
name_test false other h = refl

no_name : (negative : Bool) (whole fraction number bytes name : List ℕ) → IsNumber true negative whole fraction number
    → read_item (number ++ bytes) ≡ NoItem → StandsBehind bytes name → is_name name ≡ true
    → ⊥
no_name negative whole fraction number bytes name digits read h test =
    let tests = and_parts (nat_lt 0 (length name)) (list_all is_ascii_alphabetic name) test in
    let found = named_read negative whole fraction number h.blanks name h.rest digits h.blank (ltb-true 0 _ tests.0) tests.1 h.ends in
    let clash : NoItem ≡ NamedItem (record { negative = negative; whole = whole; fraction = fraction }) name h.rest = sym read
    ∙ ap (λ (l : List ℕ). read_item (number ++ l)) h.split ∙ found in cc

pair_unspelled : (names : Names) (counts : List Count) (total : ℕ) (number bytes : List ℕ) (n : Numeral) (more : List (List ℕ))
    → IsNumber true n.negative n.whole n.fraction number → read_item (number ++ bytes) ≡ NoItem → words bytes ≡ more
    → judge_pair names counts total (length number) more n ≡ Unspelled
pair_unspelled names counts total number bytes n [] digits read is = refl
pair_unspelled names counts total number bytes n (name ∷ more) digits read is =
    name_test (is_name name) _ (no_name n.negative n.whole n.fraction number bytes name digits read (next_word bytes name more is))

-- ---- a word

is_whole : (l : List ℕ) → (length l == 0) ≡ true → l ≡ []
is_whole [] h = refl
is_whole (b ∷ bs) h = grind (arith, nat_tests)

number_case :
    (t : Bool) (names : Names) (counts : List Count) (total size : ℕ) (n : Numeral) (next : List Count → Verdict) (pair : Numeral → Verdict)
    → (t ≡ true → pair n ≡ Unspelled)
    → judge_word names counts total size (cond t (NumberWord n) OtherWord) next pair ≡ Unspelled
number_case true names counts total size n next pair h = h refl
number_case false names counts total size n next pair h = refl

word_case :
    (names : Names) (counts : List Count) (total : ℕ) (word rest : List ℕ) (next : List Count → Verdict) (item : NextItem)
    (found : Option (Numeral × List ℕ)) → EndsWord rest → read_item (word ++ rest) ≡ NoItem → Stands word item
    → read_number true word ≡ found
    → judge_word names counts total (length word) (kind_from item found) next (judge_pair names counts total (length word) (words rest))
    ≡ Unspelled
word_case names counts total word rest next (ClockItem fields behind) found ends read h is =
    let split : word ++ rest ≡ h.word ++ (behind ++ rest) = ap (λ (l : List ℕ). l ++ rest) h.split ∙ append_assoc h.word behind rest in
    let other = clock_read h.word (behind ++ rest) _ h.clock (ends_both behind rest h.ends ends) in
    let clash : NoItem ≡ ClockItem _ (behind ++ rest) = sym read ∙ ap read_item split ∙ other in cc
word_case names counts total word rest next (NamedItem n letters behind) found ends read h is =
    let split : word ++ rest ≡ h.number ++ (h.blanks ++ (letters ++ (behind ++ rest))) =
    ap (λ (l : List ℕ). l ++ rest) h.split ∙ append_assoc h.number (h.blanks ++ (letters ++ behind)) rest
    ∙ ap (λ (l : List ℕ). h.number ++ l) (append_assoc h.blanks (letters ++ behind) rest
    ∙ ap (λ (l : List ℕ). h.blanks ++ l) (append_assoc letters behind rest)) in
    let other = named_read n.negative n.whole n.fraction h.number h.blanks letters (behind ++ rest) h.digits h.blank h.some h.ascii
    (ends_both behind rest h.ends ends) in
    let clash : NoItem ≡ NamedItem n letters (behind ++ rest) = sym read ∙ ap read_item split ∙ other in cc
word_case names counts total word rest next NoItem None ends read h is = refl
word_case names counts total word rest next NoItem (Some (n, behind)) ends read h is =
    number_case (length behind == 0) names counts total (length word) n next (judge_pair names counts total (length word) (words rest))
    (λ whole.
    let number = is_number true word n behind is in
    let same : word ≡ number.0 = number.2 ∙ ap (λ (l : List ℕ). number.0 ++ l) (is_whole behind whole) ∙ append-nil number.0 in
    pair_unspelled names counts total word rest n (words rest) (subst (λ (l : List ℕ). IsNumber true n.negative n.whole n.fraction l)
    (sym same) number.1) read refl)

-- bytes that begin with no item and no blank
pub no_item_verdict : (names : Names) (counts : List Count) (total b : ℕ) (bs : List ℕ) → is_blank b ≡ false → read_item (b ∷ bs) ≡ NoItem
    → verdict names counts total (words (b ∷ bs)) ≡ Unspelled
unfolding word_kind
no_item_verdict names counts total b bs solid read =
    let first = first_word b bs solid in
    let front = ap words first.split ∙ words_in_front first.word first.rest first.some first.solid first.ends in
    ap (verdict names counts total) front ∙ verdict-word names counts total first.word (words first.rest)
    ∙ word_case names counts total first.word first.rest _ (read_item first.word) (read_number true first.word) first.ends
    (ap read_item (sym first.split) ∙ read) (item_stands first.word) refl

-- a clock in front that counts a unit again
pub clock_again_verdict : (names : Names) (counts : List Count) (total : ℕ) (bytes rest : List ℕ) (fields : ClockFields)
    → StandsClock bytes fields rest → has_distinct_units (counts ++ clock_of fields) ≡ false
    → verdict names counts total (words bytes) ≡ Unspelled
clock_again_verdict names counts total bytes rest fields h again =
    let front = ap words h.split ∙ words_in_front h.word rest (clock_some h.word _ h.clock) (clock_no_blanks h.word _ h.clock) h.ends in
    let kind = clock_kind h.word _ h.clock in
    let again' : has_distinct_units (counts ++ clock_counts h.clock.negative h.clock.hours h.clock.minutes h.clock.seconds h.clock.fraction)
    ≡ false =
    ap (λ (l : List Count). has_distinct_units (counts ++ l)) (sym h.clock.counted) ∙ again in
    ap (verdict names counts total) front ∙ verdict-word names counts total h.word (words rest) ∙ rw (kind, again') refl
