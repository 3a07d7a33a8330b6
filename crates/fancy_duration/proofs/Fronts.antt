-- The readers' fronts of a text, and the items that follow them.
use Rattle.std.proofs.Common.{◌≡◌, ℕ, ◌-◌, ◌≤◌, ◌<◌, Bool, true, false, List, [], ◌∷◌, length, refl, arith, ◌≢◌, ◌∙◌, ap, length-drop}
use Rattle.std.proofs.lemmas.Bool.Decides.{nat_tests}
use Rattle.std.specs.Char.{is_ascii_digit as is_digit, is_ascii_alphabetic as is_letter, digit_value}
use Rattle.scan_core.proofs.FrontFacts.{length-behind}
use Rattle.fancy_duration.specs.Items.{begins_by}
use Rattle.scan_core.specs.Fronts.{leading, behind}
use Rattle.fancy_duration.specs.inside.Reading.{unit_front, unit_behind, item_at, items_behind, items_of}

pub front_more : (test : ℕ → Bool) (b : ℕ) (rest tail : List ℕ) → rest ≡ b ∷ tail → test b ≡ true
    → leading test rest ≡ b ∷ leading test tail
front_more test b rest tail e h = rw e (simp h)

pub behind_more : (test : ℕ → Bool) (b : ℕ) (rest tail : List ℕ) → rest ≡ b ∷ tail → test b ≡ true
    → behind test tail ≡ behind test rest
behind_more test b rest tail e h = rw e (simp h)

pub digit_value-digit : (b : ℕ) → is_digit b ≡ true → digit_value b ≡ b - 48
digit_value-digit b e = grind (arith, nat_tests)

-- a digit run passes no item on but its own
pub items_behind_digits : (bs : List ℕ) → items_behind true bs ≡ items_behind false (behind is_digit bs)
items_behind_digits [] = refl
items_behind_digits (b ∷ bs) =
    elim (is_digit b) as (λ t. is_digit b ≡ t → items_behind true (b ∷ bs) ≡ items_behind false (behind is_digit (b ∷ bs)))
    [ true ↦ λ e. simp e (items_behind_digits bs) | false ↦ λ e. simp e ] refl

-- a byte that is no digit
pub items_of-other : (b : ℕ) (bs : List ℕ) → is_digit b ≡ false → items_of (b ∷ bs) ≡ items_of bs
unfolding items_of
items_of-other b bs e = simp e

-- digits that a letter follows
pub items_of-digits : (b : ℕ) (bs : List ℕ) → is_digit b ≡ true
    → begins_by is_letter (behind is_digit (b ∷ bs)) ≡ true
    → items_of (b ∷ bs) ≡ item_at (b ∷ bs) ∷ items_of (behind is_digit (b ∷ bs))
unfolding items_of
items_of-digits b bs e f = simp (e, items_behind_digits bs) (let g = simp e at f in simp g)

-- digits that none follows
pub items_of-digits_alone : (b : ℕ) (bs : List ℕ) → is_digit b ≡ true
    → begins_by is_letter (behind is_digit (b ∷ bs)) ≡ false
    → items_of (b ∷ bs) ≡ items_of (behind is_digit (b ∷ bs))
unfolding items_of
items_of-digits_alone b bs e f = simp (e, items_behind_digits bs) (let g = simp e at f in simp g)

-- a letter is no digit
pub letter_not_digit : (b : ℕ) → is_letter b ≡ true → is_digit b ≡ false
letter_not_digit b e = grind (arith, nat_tests)

-- the letters of a unit
pub items_of-unit : (bs : List ℕ) → items_of bs ≡ items_of (unit_behind bs)
items_of-unit [] = refl
items_of-unit (a ∷ []) =
    elim (is_letter a) as (λ t. is_letter a ≡ t → items_of (a ∷ []) ≡ items_of (unit_behind (a ∷ [])))
    [ true ↦ λ e. simp e (items_of-other a [] (letter_not_digit a e)) | false ↦ λ e. simp e ] refl
items_of-unit (a ∷ b ∷ bs) =
    elim (is_letter a) as (λ t. is_letter a ≡ t → items_of (a ∷ b ∷ bs) ≡ items_of (unit_behind (a ∷ b ∷ bs)))
    [ true ↦ λ e. after_first e | false ↦ λ e. simp e ] refl
  where
    after_first : is_letter a ≡ true → items_of (a ∷ b ∷ bs) ≡ items_of (unit_behind (a ∷ b ∷ bs))
    after_first e =
        elim (is_letter b) as (λ t. is_letter b ≡ t → items_of (a ∷ b ∷ bs) ≡ items_of (unit_behind (a ∷ b ∷ bs))) [
          | true ↦ λ f. simp (e, f) (items_of-other a (b ∷ bs) (letter_not_digit a e) ∙ items_of-other b bs (letter_not_digit b f))
          | false ↦ λ f. simp (e, f) (items_of-other a (b ∷ bs) (letter_not_digit a e))
        ] refl

pub length-unit_behind : (bs : List ℕ) → length (unit_behind bs) ≤ length bs
length-unit_behind bs = omega (arith, length-drop (length (unit_front bs)) bs)

-- there is a unit exactly where the text begins by a letter
pub unit_front_none : (bs : List ℕ) → length (unit_front bs) ≡ 0 → begins_by is_letter bs ≡ false
unit_front_none [] = λ _. refl
unit_front_none (b ∷ bs) =
    elim (is_letter b) as (λ t. is_letter b ≡ t → length (unit_front (b ∷ bs)) ≡ 0 → is_letter b ≡ false)
    [ true ↦ λ e. simp e (λ h. absurd (omega arith)) | false ↦ λ e h. e ] refl

pub unit_front_some : (bs : List ℕ) → length (unit_front bs) ≢ 0 → begins_by is_letter bs ≡ true
unit_front_some [] = λ e. absurd (e refl)
unit_front_some (b ∷ bs) =
    elim (is_letter b) as (λ t. is_letter b ≡ t → length (unit_front (b ∷ bs)) ≢ 0 → is_letter b ≡ true)
    [ true ↦ λ e h. e | false ↦ λ e. simp e (λ h. absurd (h refl)) ] refl

-- the steps of a search for the first item
pub passes_other : (b : ℕ) (rest tail : List ℕ) → rest ≡ b ∷ tail → is_digit b ≡ false
    → items_of rest ≡ items_of tail
passes_other b rest tail e digit = rw e (items_of-other b tail digit)

pub passes_digits : (b : ℕ) (rest tail after unit : List ℕ) → rest ≡ b ∷ tail → is_digit b ≡ true
    → after ≡ behind is_digit rest → unit ≡ unit_front after → length unit ≡ 0
    → items_of rest ≡ items_of after
passes_digits b rest tail after unit e digit f g none =
    let alone : begins_by is_letter (behind is_digit (b ∷ tail)) ≡ false = rw e at (rw f at (unit_front_none after (rw g at none))) in
    rw (f, e) (items_of-digits_alone b tail digit alone)

pub finds_item : (b : ℕ) (rest tail after unit end : List ℕ) → rest ≡ b ∷ tail → is_digit b ≡ true
    → after ≡ behind is_digit rest → unit ≡ unit_front after → end ≡ unit_behind after
    → length unit ≢ 0 → items_of rest ≡ item_at rest ∷ items_of end
finds_item b rest tail after unit end e digit f g h some =
    let followed : begins_by is_letter (behind is_digit (b ∷ tail)) ≡ true = rw e at (rw f at (unit_front_some after (rw g at some))) in
    rw (h, f, e) (items_of-digits b tail digit followed ∙ ap (λ items. item_at (b ∷ tail) ∷ items)
    (items_of-unit (behind is_digit (b ∷ tail))))

-- what follows a digit run is shorter
pub length-after_digits : (b : ℕ) (rest tail after : List ℕ) → rest ≡ b ∷ tail → is_digit b ≡ true
    → after ≡ behind is_digit rest → length after < length rest
length-after_digits b rest tail after e digit f =
    let shorter : length (behind is_digit tail) ≤ length tail = length-behind is_digit tail in
    rw (f, e) (simp digit (omega (arith, shorter)))

pub items_of-nothing : (bs : List ℕ) → length bs ≡ 0 → items_of bs ≡ []
unfolding items_of
items_of-nothing [] e = refl
items_of-nothing (b ∷ bs) e = absurd (omega arith)
