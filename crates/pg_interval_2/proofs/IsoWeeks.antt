-- What weeks changed of the ISO style: texts without the letter `W` spell what they spelled, and one with it spelled nothing.
use Rattle.std.proofs.Common.{◌≡◌, ◌≢◌, ◌↔◌, ◌⊎◌, ℕ, ◌==◌, ◌||◌, Bool, true, false, List, [], ◌∷◌, ◌++◌, Option, Some, refl, sym, ◌∙◌, ap}
use Rattle.std.proofs.Common.{arith, inl, inr, codes}
use Rattle.std.specs.Char.{is_ascii_digit}
use Rattle.std.specs.List.{list_all}
use Rattle.std.proofs.lemmas.Bool.Decides.{nat_tests}
use Rattle.std.proofs.lemmas.List.Folds.{list_any-append}
use Rattle.std.proofs.lemmas.Bool.{and_parts, or_parts}
use Rattle.scan_core.specs.Count.{Count}
use Rattle.scan_core.specs.Digits.{AreDigits}
use Rattle.scan_core.specs.Number.{IsFraction, IsNumber, IsSign}
use Rattle.scan_core.proofs.DigitFacts.{all_from_digits}
use Rattle.scan_core.specs.declared.share.Unit.{Unit as TimeUnit}
use Rattle.pg_interval_2.specs.Denotes.{HasNoShape}
use Rattle.pg_interval_2.specs.Iso.{IsPair, IsIso, unit_in}
use Rattle.pg_interval_2.specs.inside.IsoShapes.{ArePairs}
use Rattle.pg_interval_2.specs.IsoWithoutWeeks.{IsIsoWithoutWeeks, has_week, unit_without_weeks}

-- ---- a text without the letter

week_append : (xs ys : List ℕ) → has_week (xs ++ ys) ≡ (has_week xs || has_week ys)
week_append xs ys = list_any-append (λ byte. byte == 87) xs ys

-- neither part of a join has the letter
apart : (whole xs ys : List ℕ) → has_week whole ≡ false → whole ≡ xs ++ ys → (has_week xs ≡ false) × (has_week ys ≡ false)
apart whole xs ys none split = or_parts (has_week xs) (has_week ys) (sym (ap has_week split ∙ week_append xs ys) ∙ none)

-- without the letter, both tables mean the same
same_unit : (in_time : Bool) (letter : ℕ) → (letter == 87) ≡ false → unit_in in_time letter ≡ unit_without_weeks in_time letter
same_unit false letter other = rw other refl
same_unit true letter other = rw other refl

-- what letters mean goes over from one table to another, but for `W`
abbrev GoesOver : (ℕ → Option TimeUnit) → (ℕ → Option TimeUnit) → Type 0
GoesOver from to = (letter : ℕ) (unit : TimeUnit) → (letter == 87) ≡ false → from letter ≡ Some unit → to letter ≡ Some unit

forth : (in_time : Bool) → GoesOver (unit_in in_time) (unit_without_weeks in_time)
forth in_time letter unit other means = sym (same_unit in_time letter other) ∙ means

back : (in_time : Bool) → GoesOver (unit_without_weeks in_time) (unit_in in_time)
back in_time letter unit other means = same_unit in_time letter other ∙ means

pair_over : (from to : ℕ → Option TimeUnit) → GoesOver from to → (piece : List ℕ) (c : Count) → has_week piece ≡ false → IsPair from piece c
    → IsPair to piece c
pair_over from to over piece c none pair =
    let letter = (or_parts (pair.letter == 87) false (apart piece pair.number (pair.letter ∷ []) none pair.joined).1).0 in
    record {
      number = pair.number;
      letter = pair.letter;
      digits = pair.digits;
      unit = over pair.letter c.unit letter pair.unit;
      joined = pair.joined;
    }

pairs_over : (from to : ℕ → Option TimeUnit) → GoesOver from to → (bytes : List ℕ) (counts : List Count) → has_week bytes ≡ false
    → ArePairs from bytes counts
    → ArePairs to bytes counts
pairs_over from to over bytes [] none pairs = pairs
pairs_over from to over bytes (c ∷ cs) none (piece, rest, pair, more, split) =
    let parts = apart bytes piece rest none split in (
      piece,
      rest,
      pair_over from to over piece c parts.0 pair,
      pairs_over from to over rest cs parts.1 more,
      split,
    )

-- what stands behind the `T` has no such letter
time_without : (date time rest : List ℕ) → ((rest ≡ []) × (time ≡ []) × (date ≢ [])) ⊎ (rest ≡ codes "T" ++ time) → has_week rest ≡ false
    → has_week time ≡ false
time_without date time rest (inl none) h = ap has_week none.1
time_without date time rest (inr behind) h = (apart rest (codes "T") time h behind).1

shape_over : (from to : Bool → ℕ → Option TimeUnit) → ((in_time : Bool) → GoesOver (from in_time) (to in_time))
    → (text : List ℕ) (counts : List Count) → has_week text ≡ false → IsIso from text counts
    → IsIso to text counts
shape_over from to over text counts none iso =
    let behind = (apart text (codes "P") (iso.date ++ iso.rest) none iso.joined).1 in
    let parts = apart _ iso.date iso.rest behind refl in
    let time = time_without iso.date iso.time iso.rest iso.timed parts.1 in
    record {
      date = iso.date;
      time = iso.time;
      rest = iso.rest;
      date_counts = iso.date_counts;
      time_counts = iso.time_counts;
      dates = pairs_over (from false) (to false) (over false) iso.date iso.date_counts parts.0 iso.dates;
      times = pairs_over (from true) (to true) (over true) iso.time iso.time_counts time iso.times;
      timed = iso.timed;
      joined = iso.joined;
      counted = iso.counted;
    }

pub old_texts : (text : List ℕ) (counts : List Count) → has_week text ≡ false → (IsIso unit_in text counts ↔ IsIsoWithoutWeeks text counts)
old_texts text counts none = (
  shape_over unit_in unit_without_weeks forth text counts none,
  shape_over unit_without_weeks unit_in back text counts none,
)

-- ---- the old shape has no such letter

joined : (whole xs ys : List ℕ) → whole ≡ xs ++ ys → has_week xs ≡ false → has_week ys ≡ false → has_week whole ≡ false
joined whole xs ys split left right = ap has_week split ∙ week_append xs ys ∙ rw (left, right) refl

no_digit : (b : ℕ) → is_ascii_digit b ≡ true → (b == 87) ≡ false
no_digit b digit = grind (arith, nat_tests)

no_digits : (bytes : List ℕ) → list_all is_ascii_digit bytes ≡ true → has_week bytes ≡ false
no_digits [] all = refl
no_digits (b ∷ bs) all =
    let split = and_parts (is_ascii_digit b) (list_all is_ascii_digit bs) all in
    let first = no_digit b split.0 in
    rw first (no_digits bs split.1)

digits : (bytes : List ℕ) → AreDigits bytes → has_week bytes ≡ false
digits bytes are = no_digits bytes (all_from_digits bytes are)

sign : (negative : Bool) (bytes : List ℕ) → IsSign false negative bytes → has_week bytes ≡ false
sign true bytes is = ap has_week is
sign false bytes (inl none) = ap has_week none
sign false bytes (inr plus) = cc

fraction : (digits_behind tail : List ℕ) → IsFraction digits_behind tail → has_week tail ≡ false
fraction digits_behind tail (inl none) = ap has_week none.1
fraction digits_behind tail (inr some) = joined tail (codes ".") digits_behind some.1 refl (digits digits_behind some.0)

number : (negative : Bool) (whole behind word : List ℕ) → IsNumber false negative whole behind word → has_week word ≡ false
number negative whole behind word is =
    joined word is.sign (whole ++ is.tail) is.joined (sign negative is.sign is.signed)
    (joined (whole ++ is.tail) whole is.tail refl (digits whole is.digits) (fraction behind is.tail is.point))

letter : (in_time : Bool) (byte : ℕ) (unit : TimeUnit) → unit_without_weeks in_time byte ≡ Some unit → (byte == 87) ≡ false
letter false byte unit means = grind (arith, nat_tests)
letter true byte unit means = grind (arith, nat_tests)

pair : (in_time : Bool) (piece : List ℕ) (c : Count) → IsPair (unit_without_weeks in_time) piece c → has_week piece ≡ false
pair in_time piece c is =
    let means = letter in_time is.letter c.unit is.unit in
    joined piece is.number (is.letter ∷ []) is.joined (number c.negative c.whole c.fraction is.number is.digits) (rw means refl)

pairs : (in_time : Bool) (bytes : List ℕ) (counts : List Count) → ArePairs (unit_without_weeks in_time) bytes counts
    → has_week bytes ≡ false
pairs in_time bytes [] none = ap has_week none
pairs in_time bytes (c ∷ cs) (piece, rest, first, more, split) =
    joined bytes piece rest split (pair in_time piece c first) (pairs in_time rest cs more)

rest_without : (date time rest : List ℕ) → ((rest ≡ []) × (time ≡ []) × (date ≢ [])) ⊎ (rest ≡ codes "T" ++ time) → has_week time ≡ false
    → has_week rest ≡ false
rest_without date time rest (inl none) h = ap has_week none.0
rest_without date time rest (inr behind) h = joined rest (codes "T") time behind refl h

no_week : (text : List ℕ) (counts : List Count) → IsIsoWithoutWeeks text counts → has_week text ≡ false
no_week text counts iso =
    let time = pairs true iso.time iso.time_counts iso.times in
    let rest = rest_without iso.date iso.time iso.rest iso.timed time in
    joined text (codes "P") (iso.date ++ iso.rest) iso.joined refl
    (joined _ iso.date iso.rest refl (pairs false iso.date iso.date_counts iso.dates) rest)

pub new_texts : (text : List ℕ) → has_week text ≡ true → HasNoShape IsIsoWithoutWeeks text
new_texts text some counts shape = let none = no_week text counts shape in cc
