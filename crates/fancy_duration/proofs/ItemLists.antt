-- A text has one list of items, and the readers' `items_of` is that list.
use Rattle.std.proofs.Common.{◌≡◌, ℕ, ◌≤◌, ◌<◌, Bool, true, false, not, ◌&&◌, List, [], ◌∷◌, ◌++◌, length, refl, arith, sym, ◌∙◌, ap, zero}
use Rattle.std.proofs.Common.{suc, append_assoc, subst}
use Rattle.std.specs.Char.{is_ascii_digit as is_digit, is_ascii_alphabetic as is_letter, digit_value}
use Rattle.std.proofs.lemmas.Bool.{and_parts, not-true, true≢false}
use Rattle.std.proofs.lemmas.Bool.Decides.{nat_tests}
use Rattle.scan_core.specs.Digits.{AreDigits}
use Rattle.fancy_duration.specs.Items.{Item, begins_by, ends_by, has_no_item, is_unit, IsFirstItem, HasItems}
use Rattle.scan_core.specs.Fronts.{leading, behind, BeginsWithout}
use Rattle.fancy_duration.specs.inside.Reading.{unit_front, unit_behind, item_at, items_behind, items_of}
use Rattle.scan_core.proofs.FrontFacts.{length-behind, leading_and_behind, front_are_digits, front_of, after_of}
use Rattle.fancy_duration.proofs.Fronts.{length-unit_behind, items_of-other, items_of-digits, items_of-digits_alone, items_of-unit}
use Rattle.fancy_duration.proofs.Fronts.{letter_not_digit}

-- where a text has no item, no letter stands behind the digits that its first digit begins
no_letter : (b : ℕ) (bs : List ℕ) → is_digit b ≡ true → has_no_item (b ∷ bs) ≡ true
    → begins_by is_letter (behind is_digit bs) ≡ false
no_letter b [] digit none = refl
no_letter b (c ∷ cs) digit none =
    let parts = and_parts (not (is_digit b && is_letter c)) (has_no_item (c ∷ cs)) none in
    elim (is_digit c) as (λ t. is_digit c ≡ t → begins_by is_letter (behind is_digit (c ∷ cs)) ≡ false) [
      | true ↦ λ e. simp e (no_letter c cs e parts.1)
      | false ↦ λ e. simp e (let f = simp digit at (not-true _ parts.0) in f)
    ] refl

-- no item begins at a byte where no letter stands behind its digits
skips : (digit : Bool) (b : ℕ) (bs : List ℕ)
    → (is_digit b ≡ true → begins_by is_letter (behind is_digit bs) ≡ false)
    → items_behind digit (b ∷ bs) ≡ items_behind (is_digit b) bs
skips true b bs h = refl
skips false b bs h =
    elim (is_digit b) as (λ t. is_digit b ≡ t → items_behind false (b ∷ bs) ≡ items_behind (is_digit b) bs)
    [ true ↦ λ e. simp (e, h e) | false ↦ λ e. simp e ] refl

items_none : (text : List ℕ) (digit : Bool) → has_no_item text ≡ true → items_behind digit text ≡ []
items_none [] digit none = refl
items_none (b ∷ bs) digit none =
    let parts = and_parts (not (is_digit b && begins_by is_letter bs)) (has_no_item bs) none in
    skips digit b bs (λ e. no_letter b bs e none) ∙ items_none bs (is_digit b) parts.1

-- the same inside a text, behind a part that doesn't end by a digit
no_letter_within : (b : ℕ) (bs rest : List ℕ) → is_digit b ≡ true → has_no_item (b ∷ bs) ≡ true
    → ends_by is_digit (b ∷ bs) ≡ false → begins_by is_letter (behind is_digit (bs ++ rest)) ≡ false
no_letter_within b [] rest digit none maximal = absurd (true≢false (sym digit ∙ maximal))
no_letter_within b (c ∷ cs) rest digit none maximal =
    let parts = and_parts (not (is_digit b && is_letter c)) (has_no_item (c ∷ cs)) none in
    elim (is_digit c) as (λ t. is_digit c ≡ t → begins_by is_letter (behind is_digit (c ∷ (cs ++ rest))) ≡ false) [
      | true ↦ λ e. simp e (no_letter_within c cs rest e parts.1 maximal)
      | false ↦ λ e. simp e (let f = simp digit at (not-true _ parts.0) in f)
    ] refl

items_within : (b : ℕ) (bs rest : List ℕ) (digit : Bool) → has_no_item (b ∷ bs) ≡ true
    → ends_by is_digit (b ∷ bs) ≡ false
    → items_behind digit ((b ∷ bs) ++ rest) ≡ items_behind false rest
items_within b [] rest digit none maximal =
    skips digit b rest (λ e. absurd (true≢false (sym e ∙ maximal))) ∙ ap (λ d. items_behind d rest) maximal
items_within b (c ∷ cs) rest digit none maximal =
    let parts = and_parts (not (is_digit b && begins_by is_letter (c ∷ cs))) (has_no_item (c ∷ cs)) none in
    skips digit b ((c ∷ cs) ++ rest) (λ e. no_letter_within b (c ∷ cs) rest e none maximal)
    ∙ items_within c cs rest (is_digit b) parts.1 maximal

items_of-before : (before rest : List ℕ) → has_no_item before ≡ true
    → ends_by is_digit before ≡ false → items_of (before ++ rest) ≡ items_of rest
unfolding items_of
items_of-before [] rest none maximal = refl
items_of-before (b ∷ bs) rest none maximal = items_within b bs rest false none maximal

-- digits and what follows them
pub is_digit-from : (b : ℕ) → digit_value b < 10 → is_digit b ≡ true
is_digit-from b h = grind (arith, nat_tests)

-- a front ends where no byte that passes the test follows
pub begins_without : (test : ℕ → Bool) (bs : List ℕ) → begins_by test bs ≡ false → BeginsWithout test bs
begins_without test [] h = tt
begins_without test (b ∷ bs) h = h

pub letters_no_digit : (rest : List ℕ) → begins_by is_letter rest ≡ true → BeginsWithout is_digit rest
letters_no_digit [] h = tt
letters_no_digit (b ∷ bs) h = letter_not_digit b h

pub digits_split : (digits rest : List ℕ) → AreDigits digits → begins_by is_letter rest ≡ true
    → (leading is_digit (digits ++ rest) ≡ digits) × (behind is_digit (digits ++ rest) ≡ rest)
digits_split digits rest h letter =
    let ends = letters_no_digit rest letter in
    (front_of digits rest h ends, after_of digits rest h ends)

-- a unit and what follows it
pub unit_begins : (unit rest : List ℕ) → is_unit unit rest ≡ true → begins_by is_letter (unit ++ rest) ≡ true
unit_begins [] rest h = absurd (true≢false (sym h))
unit_begins (a ∷ []) rest h = (and_parts (is_letter a) _ h).0
unit_begins (a ∷ b ∷ []) rest h = (and_parts (is_letter a) _ h).0
unit_begins (a ∷ b ∷ c ∷ cs) rest h = absurd (true≢false (sym h))

pub unit_splits : (unit rest : List ℕ) → is_unit unit rest ≡ true
    → (unit_front (unit ++ rest) ≡ unit) × (unit_behind (unit ++ rest) ≡ rest)
unit_splits [] rest h = absurd (true≢false (sym h))
unit_splits (a ∷ []) [] h =
    let first = (and_parts (is_letter a) _ h).0 in
    (simp first, simp first)
unit_splits (a ∷ []) (c ∷ cs) h =
    let parts = and_parts (is_letter a) (not (is_letter c)) h in
    let other : is_letter c ≡ false = not-true _ parts.1 in
    (simp (parts.0, other), simp (parts.0, other))
unit_splits (a ∷ b ∷ []) rest h =
    let parts = and_parts (is_letter a) (is_letter b) h in
    (simp (parts.0, parts.1), simp (parts.0, parts.1))
unit_splits (a ∷ b ∷ c ∷ cs) rest h = absurd (true≢false (sym h))

-- the item at a text's front
items_of-first : (digits unit rest : List ℕ) → 0 < length digits → AreDigits digits
    → is_unit unit rest ≡ true
    → items_of (digits ++ (unit ++ rest)) ≡ record { digits = digits; unit = unit } ∷ items_of rest
items_of-first [] unit rest some h u = absurd (omega arith)
items_of-first (d ∷ ds) unit rest some h u =
    let letter = unit_begins unit rest u in
    let fronts = digits_split (d ∷ ds) (unit ++ rest) h letter in
    let units = unit_splits unit rest u in
    let digit : is_digit d ≡ true = is_digit-from d h.0 in
    let followed : begins_by is_letter (behind is_digit (d ∷ (ds ++ (unit ++ rest)))) ≡ true = ap (begins_by is_letter) fronts.1 ∙ letter in
    let unit_is : unit_front (behind is_digit ((d ∷ ds) ++ (unit ++ rest))) ≡ unit = ap unit_front fronts.1 ∙ units.0 in
    let make : List ℕ → List ℕ → List Item → List Item = λ ds u items. record { digits = ds; unit = u } ∷ items in
    items_of-digits d (ds ++ (unit ++ rest)) digit followed
    ∙ ap (λ xs. make xs (unit_front (behind is_digit ((d ∷ ds) ++ (unit ++ rest))))
    (items_of (behind is_digit ((d ∷ ds) ++ (unit ++ rest))))) fronts.0
    ∙ ap (λ xs. make (d ∷ ds) xs (items_of (behind is_digit ((d ∷ ds) ++ (unit ++ rest))))) unit_is
    ∙ ap (λ xs. make (d ∷ ds) unit (items_of xs)) fronts.1
    ∙ ap (λ xs. make (d ∷ ds) unit xs) (items_of-unit (unit ++ rest) ∙ ap items_of units.1)

-- a list of a text's items is that of the readers
pub items_unique : (items : List Item) (text : List ℕ) → HasItems text items → items_of text ≡ items
unfolding items_of
items_unique [] text h = items_none text false h
items_unique (item ∷ items) text h =
    let first = h.1 in
    ap items_of first.joined
    ∙ items_of-before first.before (item.digits ++ (item.unit ++ h.0)) first.passed_over (not-true _ first.maximal)
    ∙ items_of-first item.digits item.unit h.0 first.some_digits first.are_digits first.has_unit
    ∙ ap (λ xs. item ∷ xs) (items_unique items h.0 h.2)

-- each text has a list of items
pub begins-behind : (test : ℕ → Bool) (bs : List ℕ) → begins_by test (behind test bs) ≡ false
begins-behind test [] = refl
begins-behind test (b ∷ bs) =
    elim (test b) as (λ t. test b ≡ t → begins_by test (behind test (b ∷ bs)) ≡ false)
    [ true ↦ λ e. simp e (begins-behind test bs) | false ↦ λ e. simp e ] refl

digit_not_letter : (b : ℕ) → digit_value b < 10 → is_letter b ≡ false
digit_not_letter b h = grind (arith, nat_tests)

ends_more : (b : ℕ) (bs : List ℕ) → is_digit b ≡ false → not (ends_by is_digit bs) ≡ true
    → not (ends_by is_digit (b ∷ bs)) ≡ true
ends_more b [] e h = simp e
ends_more b (c ∷ cs) e h = h

pub add_other : (b : ℕ) (bs : List ℕ) (items : List Item) → is_digit b ≡ false → HasItems bs items
    → HasItems (b ∷ bs) items
add_other b bs [] e h = simp e h
add_other b bs (item ∷ items) e h =
    let first = h.1 in (
      h.0,
      record {
        before = b ∷ first.before;
        passed_over = simp e first.passed_over;
        maximal = ends_more b first.before e first.maximal;
        some_digits = first.some_digits;
        are_digits = first.are_digits;
        has_unit = first.has_unit;
        joined = ap (λ xs. b ∷ xs) first.joined;
      },
      h.2,
    )

-- digits before a part that begins by no letter
has_no_item-digits : (ds rest : List ℕ) → AreDigits ds → begins_by is_letter rest ≡ false
    → has_no_item rest ≡ true → has_no_item (ds ++ rest) ≡ true
has_no_item-digits [] rest digits other none = none
has_no_item-digits (d ∷ []) rest digits other none = simp other (and_right_from (is_digit d) none)
  where
    and_right_from : (t : Bool) → has_no_item rest ≡ true → (not (t && false) && has_no_item rest) ≡ true
    and_right_from true h = h
    and_right_from false h = h
has_no_item-digits (d ∷ c ∷ ds) rest digits other none =
    let letter : is_letter c ≡ false = digit_not_letter c digits.1.0 in
    simp letter (and_right_from (is_digit d) (has_no_item-digits (c ∷ ds) rest digits.1 other none))
  where
    and_right_from : (t : Bool) → has_no_item (c ∷ (ds ++ rest)) ≡ true → (not (t && false) && has_no_item (c ∷ (ds ++ rest))) ≡ true
    and_right_from true h = h
    and_right_from false h = h

ends_by-append : (ds : List ℕ) (c : ℕ) (cs : List ℕ)
    → ends_by is_digit (ds ++ c ∷ cs) ≡ ends_by is_digit (c ∷ cs)
ends_by-append [] c cs = refl
ends_by-append (d ∷ []) c cs = refl
ends_by-append (d ∷ e ∷ ds) c cs = ends_by-append (e ∷ ds) c cs

begins_by_digits : (digits rest : List ℕ) → 0 < length digits → AreDigits digits
    → begins_by is_digit (digits ++ rest) ≡ true
begins_by_digits [] rest some h = absurd (omega arith)
begins_by_digits (d ∷ ds) rest some h = is_digit-from d h.0

add_digits : (ds rest : List ℕ) (items : List Item) → AreDigits ds
    → begins_by is_letter rest ≡ false → begins_by is_digit rest ≡ false → HasItems rest items
    → HasItems (ds ++ rest) items
add_digits ds rest [] digits letter digit h = has_no_item-digits ds rest digits letter h
add_digits ds rest (item ∷ items) digits letter digit h =
    (h.0, behind_gap h.1.before h.1.passed_over h.1.maximal h.1.joined, h.2)
  where
    behind_gap : (before : List ℕ) → has_no_item before ≡ true → not (ends_by is_digit before) ≡ true
        → rest ≡ before ++ (item.digits ++ (item.unit ++ h.0)) → IsFirstItem (ds ++ rest) item h.0
    behind_gap [] none maximal joined = absurd (true≢false (sym
        (ap (begins_by is_digit) joined ∙ begins_by_digits item.digits _ h.1.some_digits h.1.are_digits) ∙ digit))
    behind_gap (c ∷ cs) none maximal joined = record {
      before = ds ++ c ∷ cs;
      passed_over = has_no_item-digits ds (c ∷ cs) digits (sym (ap (begins_by is_letter) joined) ∙ letter) none;
      maximal = ap not (ends_by-append ds c cs) ∙ maximal;
      some_digits = h.1.some_digits;
      are_digits = h.1.are_digits;
      has_unit = h.1.has_unit;
      joined = ap (λ xs. ds ++ xs) joined ∙ sym (append_assoc ds (c ∷ cs) _);
    }

pub unit_joins : (bs : List ℕ) → begins_by is_letter bs ≡ true
    → is_unit (unit_front bs) (unit_behind bs) ≡ true × (unit_front bs ++ unit_behind bs ≡ bs)
unit_joins [] h = absurd (true≢false (sym h))
unit_joins (a ∷ []) h = (simp h, simp h)
unit_joins (a ∷ b ∷ bs) h =
    elim (is_letter b) as (λ t. is_letter b ≡ t → is_unit (unit_front (a ∷ b ∷ bs)) (unit_behind (a ∷ b ∷ bs)) ≡ true
    × (unit_front (a ∷ b ∷ bs) ++ unit_behind (a ∷ b ∷ bs) ≡ a ∷ b ∷ bs)) [
      | true ↦ λ e. (simp (h, e), simp (h, e))
      | false ↦ λ e. (simp (h, e), simp (h, e))
    ] refl

-- the items of a text that begins by a digit, given those of all shorter ones
items_at_digit : (b : ℕ) (bs : List ℕ) → is_digit b ≡ true
    → ((rest : List ℕ) → length rest ≤ length bs → HasItems rest (items_of rest))
    → HasItems (b ∷ bs) (items_of (b ∷ bs))
items_at_digit b bs e shorter =
    elim (begins_by is_letter rest) as (λ t. begins_by is_letter rest ≡ t → HasItems text (items_of text)) [
      | true ↦ λ f.
          let units = unit_joins rest f in
          let found : items_of text ≡ item_at text ∷ items_of (unit_behind rest) = items_of-digits b bs e f
          ∙ ap (λ items. item_at text ∷ items) (items_of-unit rest) in
          subst H (sym found) (
            unit_behind rest,
            record {
              before = [];
              passed_over = refl;
              maximal = refl;
              some_digits = simp e (omega arith);
              are_digits = front_are_digits text;
              has_unit = units.0;
              joined = sym (ap (λ xs. leading is_digit text ++ xs) units.1 ∙ leading_and_behind is_digit text);
            },
            shorter (unit_behind rest) (omega (arith, length-unit_behind rest, within)),
          )
      | false ↦ λ f.
          let whole : HasItems (leading is_digit text ++ rest) (items_of rest) = add_digits (leading is_digit text) rest (items_of rest)
          (front_are_digits text) f (begins-behind is_digit text) (shorter rest within) in
          let at_text : HasItems text (items_of rest) = let P : List ℕ → Type 0 = λ xs. HasItems xs (items_of rest) in
          subst P (leading_and_behind is_digit text) whole in
          subst H (sym (items_of-digits_alone b bs e f)) at_text
    ] refl
  where
    text : List ℕ
    text = b ∷ bs

    rest : List ℕ
    rest = behind is_digit (b ∷ bs)

    H : List Item → Type 0
    H = HasItems (b ∷ bs)

    within : length (behind is_digit (b ∷ bs)) ≤ length bs
    within = simp e (length-behind is_digit bs)

-- by the length of the text
items_to : (k : ℕ) (text : List ℕ) → length text ≤ k → HasItems text (items_of text)
unfolding items_of
items_to k [] within = refl
items_to zero (b ∷ bs) within = absurd (omega arith)
items_to (suc k) (b ∷ bs) within =
    elim (is_digit b) as (λ t. is_digit b ≡ t → HasItems (b ∷ bs) (items_of (b ∷ bs))) [
      | true ↦ λ e. items_at_digit b bs e (λ rest h. items_to k rest (omega arith))
      | false ↦ λ e. let H : List Item → Type 0 = HasItems (b ∷ bs) in
          subst H (sym (items_of-other b bs e)) (add_other b bs (items_of bs) e (items_to k bs (omega arith)))
    ] refl

pub items_exist : (text : List ℕ) → HasItems text (items_of text)
items_exist text = items_to (length text) text (omega arith)
