-- A sum of counts that is taken while a text is found to be strict.
use Rattle.std.proofs.Common.{◌≡◌, ◌≢◌, ℕ, ◌+◌, ◌*◌, ◌/◌, ◌%◌, ◌^◌, ◌<◌, Bool, true, false, ◌||◌, List, [], ◌∷◌, length, refl, sym, ◌∙◌, ap}
use Rattle.std.proofs.Common.{arith}
use Rattle.std.specs.Char.{is_ascii_digit as is_digit, is_ascii_alphabetic as is_letter}
use Rattle.std.specs.Str.Parse.{digits_value_after}
use Rattle.scan_core.specs.Blanks.{is_blank}
use Rattle.scan_core.specs.Digits.{number_of}
use Rattle.scan_core.specs.Fronts.{leading, behind}
use Rattle.scan_core.proofs.FrontFacts.{leading_of, behind_of}
use Rattle.fancy_duration.specs.declared.part.DurationPart.{DurationPart}
use Rattle.fancy_duration.specs.declared.part.DurationPart.TheVariants.{Years, Months, Weeks, Days, Hours, Minutes, Seconds, Milliseconds}
use Rattle.fancy_duration.specs.declared.part.DurationPart.TheVariants.{Microseconds, Nanoseconds}
use Rattle.fancy_duration.specs.Parts.{unit_of}
use Rattle.fancy_duration.specs.Items.{Item, begins_by}
use Rattle.fancy_duration.specs.Sums.{long_follows, total}
use Rattle.fancy_duration.specs.Meanings.{Denotes, IsTooBig}
use Rattle.fancy_duration.specs.inside.Reading.{unit_front, unit_behind, item_at, items_of, weight_if, is_long_part, sum_with, HasCounts}
use Rattle.fancy_duration.proofs.Counts.{blank_not_digit, unit_letter, count_stripped, length-stripped}
use Rattle.fancy_duration.proofs.Fronts.{items_of-other, items_of-digits, items_of-unit, items_of-nothing}
use Rattle.fancy_duration.proofs.ItemLists.{letters_no_digit}
use Rattle.fancy_duration.proofs.Totals.{denotes, not_too_big}

-- blanks pass no item on
items_of-blanks : (bs : List ℕ) → items_of bs ≡ items_of (behind is_blank bs)
items_of-blanks [] = refl
items_of-blanks (b ∷ bs) =
    elim (is_blank b) as (λ t. is_blank b ≡ t → items_of (b ∷ bs) ≡ items_of (behind is_blank (b ∷ bs))) [
      | true ↦ λ e. simp e (items_of-other b bs (blank_not_digit b e) ∙ items_of-blanks bs)
      | false ↦ λ e. simp e
    ] refl

-- the item of a count at a text's front
first_item : (text : List ℕ) → length (behind is_digit text) ≢ length text → begins_by is_letter (behind is_digit text) ≡ true
    → items_of text ≡ item_at text ∷ items_of (unit_behind (behind is_digit text))
first_item [] = λ some letter. absurd (some refl)
first_item (b ∷ bs) =
    elim (is_digit b) as (λ t. is_digit b ≡ t → length (behind is_digit (b ∷ bs)) ≢ length (b ∷ bs)
    → begins_by is_letter (behind is_digit (b ∷ bs)) ≡ true
    → items_of (b ∷ bs) ≡ item_at (b ∷ bs) ∷ items_of (unit_behind (behind is_digit (b ∷ bs)))) [
      | true ↦ λ e some letter. items_of-digits b bs e letter
          ∙ ap (λ (items : List Item). item_at (b ∷ bs) ∷ items) (items_of-unit (behind is_digit (b ∷ bs)))
      | false ↦ λ e. simp e (λ some. absurd (some refl))
    ] refl

-- what an item of a part adds to a sum
adds_item : (part : DurationPart) (item : Item) (later : List Item) (nanos pending : ℕ) → part ≢ Months → item.unit ≡ unit_of part
    → sum_with nanos pending (is_long_part part || long_follows later)
    (number_of item.digits * weight_if part (long_follows later) + total later)
    ≡ sum_with nanos pending (long_follows (item ∷ later)) (total (item ∷ later))
adds_item Years item later nanos pending other unit = rw unit refl
adds_item Months item later nanos pending other unit = absurd (other refl)
adds_item Weeks item later nanos pending other unit = rw unit refl
adds_item Days item later nanos pending other unit = rw unit refl
adds_item Hours item later nanos pending other unit = rw unit refl
adds_item Minutes item later nanos pending other unit =
    elim (long_follows later) as (λ t. long_follows later ≡ t
    → sum_with nanos pending (true || long_follows later) (number_of item.digits * weight_if Minutes (long_follows later) + total later)
    ≡ sum_with nanos pending (long_follows (item ∷ later)) (total (item ∷ later))) [
      | true ↦ λ e. rw (unit, e) refl
      | false ↦ λ e. rw (unit, e) refl
    ] refl
adds_item Seconds item later nanos pending other unit = rw unit refl
adds_item Milliseconds item later nanos pending other unit = rw unit refl
adds_item Microseconds item later nanos pending other unit = rw unit refl
adds_item Nanoseconds item later nanos pending other unit = rw unit refl

-- digits that a unit follows are all of a text's digits
pub record AreAll (text tail : List ℕ) (number : ℕ) : Type 0 where
  pub end : tail ≡ behind is_digit text
  pub value : number ≡ number_of (leading is_digit text)

pub are_all : (text tail : List ℕ) (number : ℕ) (part : DurationPart)
    → digits_value_after 10 number (leading is_digit tail) ≡ number_of (leading is_digit text)
    → behind is_digit tail ≡ behind is_digit text → unit_front tail ≡ unit_of part → AreAll text tail number
are_all text tail number part value rest unit =
    let ends = letters_no_digit tail (unit_letter part tail unit) in
    let none : leading is_digit tail ≡ [] = leading_of is_digit [] tail refl ends in
    record {
      end = sym (behind_of is_digit [] tail refl ends) ∙ rest;
      value = ap (digits_value_after 10 number) (sym none) ∙ value;
    }

-- the loop's step: a count is taken from the front
pub record Steps (text rest : List ℕ) (nanos pending nanos' pending' : ℕ) : Type 0 where
  pub strict : HasCounts rest → HasCounts text
  pub sum : sum_with nanos' pending' (long_follows (items_of rest)) (total (items_of rest))
      ≡ sum_with nanos pending (long_follows (items_of text)) (total (items_of text))
  pub shorter : length rest < length text

pub steps : (text tail after rest : List ℕ) (number nanos pending nanos' pending' : ℕ) (part : DurationPart)
    → digits_value_after 10 number (leading is_digit tail) ≡ number_of (leading is_digit text)
    → behind is_digit tail ≡ behind is_digit text → length tail ≢ length text → unit_front tail ≡ unit_of part → part ≢ Months
    → after ≡ unit_behind tail → rest ≡ behind is_blank after
    → ((long : Bool) (later : ℕ) → sum_with nanos' pending' long later
    ≡ sum_with nanos pending (is_long_part part || long) (number * weight_if part long + later))
    → Steps text rest nanos pending nanos' pending'
steps text tail after rest number nanos pending nanos' pending' part value digits some unit other a r adds =
    let all = are_all text tail number part value digits unit in
    let letter : begins_by is_letter (behind is_digit text) ≡ true = ap (begins_by is_letter) (sym all.end) ∙ unit_letter part tail unit in
    let later : items_of (unit_behind (behind is_digit text)) ≡ items_of rest =
    ap (λ (bs : List ℕ). items_of (unit_behind bs)) (sym all.end) ∙ ap items_of (sym a) ∙ items_of-blanks after ∙ ap items_of (sym r) in
    let items : items_of text ≡ item_at text ∷ items_of rest =
    first_item text (λ none. some (ap length all.end ∙ none)) letter ∙ ap (λ (items : List Item). item_at text ∷ items) later in
    let long : Bool = long_follows (items_of rest) in
    let named : unit_front (behind is_digit text) ≡ unit_of part = ap unit_front (sym all.end) ∙ unit in
    record {
      strict = (count_stripped text tail (unit_front tail) after rest part all.end some refl a r unit).0;
      sum = adds long (total (items_of rest))
          ∙ ap (λ (n : ℕ). sum_with nanos pending (is_long_part part || long) (n * weight_if part long + total (items_of rest))) all.value
          ∙ adds_item part (item_at text) (items_of rest) nanos pending other named
          ∙ ap (λ (items : List Item). sum_with nanos pending (long_follows items) (total items)) (sym items);
      shorter = length-stripped text tail after rest all.end some a r;
    }

-- where no count is left, the sum is that of the text
pub sums_up : (text rest : List ℕ) (nanos pending : ℕ) → length rest ≡ 0
    → sum_with nanos pending (long_follows (items_of rest)) (total (items_of rest)) ≡ total (items_of text)
    → sum_with nanos pending false 0 ≡ total (items_of text)
sums_up text rest nanos pending none sum =
    ap (λ (items : List Item). sum_with nanos pending (long_follows items) (total items)) (sym (items_of-nothing rest none)) ∙ sum

-- nanoseconds of 64 bits are a length that the text denotes
pub few_denoted : (text : List ℕ) (nanos : ℕ) → nanos < 2 ^ 64 → nanos ≡ total (items_of text)
    → Denotes text (nanos / 1_000_000_000, nanos % 1_000_000_000)
few_denoted text nanos few sum = denotes text text nanos _ _ refl (omega (arith, few, sum)) refl refl (omega (arith, few))

pub few_not_big : (text : List ℕ) (nanos : ℕ) → nanos < 2 ^ 64 → nanos ≡ total (items_of text) → IsTooBig text → ⊥
few_not_big text nanos few sum = not_too_big text text nanos refl (omega (arith, few, sum)) (omega (arith, few))
