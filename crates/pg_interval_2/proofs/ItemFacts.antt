-- An item that stands in front is read, and what is read is an item.
use Rattle.std.proofs.Common.{◌≡◌, ℕ, ◌<◌, ◌==◌, true, false, IsTrue, List, [], ◌∷◌, ◌++◌, length, refl, sym, arith}
use Rattle.std.specs.Char.{is_ascii_digit, is_ascii_alphabetic}
use Rattle.std.specs.List.{list_all}
use Rattle.std.proofs.lemmas.Bool.Decides.{nat_tests}
use Rattle.std.proofs.lemmas.Bool.{and_parts}
use Rattle.scan_core.specs.Blanks.{is_blank, EndsWord}
use Rattle.scan_core.specs.Fronts.{BeginsWithout, leading}
use Rattle.scan_core.proofs.FrontFacts.{leading_of, behind_of, leading_passes, leading_and_behind}
use Rattle.pg_interval_2.specs.inside.ItemReading.{after_blanks, front_letters, after_letters, ends_word}

-- ---- letters and blanks

abbrev pub AreLetters : List ℕ → Type 0
AreLetters letters = IsTrue (list_all is_ascii_alphabetic letters)

abbrev pub AreBlanks : List ℕ → Type 0
AreBlanks blanks = IsTrue (list_all is_blank blanks)

blank_no_letter : (b : ℕ) → is_blank b ≡ true → is_ascii_alphabetic b ≡ false
blank_no_letter b h = grind (arith, nat_tests)

pub letter_no_blank : (b : ℕ) → is_ascii_alphabetic b ≡ true → is_blank b ≡ false
letter_no_blank b h = grind (arith, nat_tests)

pub first_letter : (c : ℕ) (cs : List ℕ) → AreLetters (c ∷ cs) → is_ascii_alphabetic c ≡ true
first_letter c cs l = (and_parts (is_ascii_alphabetic c) (list_all is_ascii_alphabetic cs) l).0

pub first_blank : (b : ℕ) (bs : List ℕ) → AreBlanks (b ∷ bs) → is_blank b ≡ true
first_blank b bs l = (and_parts (is_blank b) (list_all is_blank bs) l).0

pub blank_is_no : (b : ℕ) → is_blank b ≡ true → (is_ascii_digit b ≡ false) × ((b == 46) ≡ false) × ((b == 58) ≡ false)
blank_is_no b h = grind (arith, nat_tests)

pub letter_is_no : (b : ℕ) → is_ascii_alphabetic b ≡ true → (is_ascii_digit b ≡ false) × ((b == 46) ≡ false) × ((b == 58) ≡ false)
letter_is_no b h = grind (arith, nat_tests)

no_letter_first : (rest : List ℕ) → EndsWord rest → BeginsWithout is_ascii_alphabetic rest
no_letter_first [] e = tt
no_letter_first (b ∷ bs) e = blank_no_letter b e

pub front_letters_of : (letters rest : List ℕ) → AreLetters letters → EndsWord rest → front_letters (letters ++ rest) ≡ letters
front_letters_of letters rest l e = leading_of is_ascii_alphabetic letters rest l (no_letter_first rest e)

pub after_letters_of : (letters rest : List ℕ) → AreLetters letters → EndsWord rest → after_letters (letters ++ rest) ≡ rest
after_letters_of letters rest l e = behind_of is_ascii_alphabetic letters rest l (no_letter_first rest e)

pub no_skip : (letters rest : List ℕ) → 0 < length letters → AreLetters letters → after_blanks (letters ++ rest) ≡ letters ++ rest
no_skip [] rest some l = absurd (omega arith)
no_skip (c ∷ cs) rest some l = let first = letter_no_blank c (and_parts _ _ l).0 in rw first refl

-- what is skipped is blank
pub are_skipped : (bytes : List ℕ) → (blanks : List ℕ) × AreBlanks blanks × (bytes ≡ blanks ++ after_blanks bytes)
are_skipped bytes = (leading is_blank bytes, leading_passes is_blank bytes, sym (leading_and_behind is_blank bytes))

pub ends_test : (rest : List ℕ) → EndsWord rest → ends_word rest ≡ true
ends_test [] h = refl
ends_test (b ∷ bs) h = h

pub ends_from : (rest : List ℕ) → ends_word rest ≡ true → EndsWord rest
ends_from [] h = tt
ends_from (b ∷ bs) h = h
