-- What a strict text spells is the sum of its items, and it is strict.
use Rattle.std.proofs.Common.{◌≡◌, ℕ, suc, ◌+◌, ◌*◌, ◌<◌, Bool, true, false, nat_le, List, [], ◌∷◌, ◌++◌, length, map, refl, sym, ◌∙◌, ap}
use Rattle.std.proofs.Common.{subst, arith, append_assoc, inl, inr}
use Rattle.std.specs.Prelude.{if◌then◌else◌}
use Rattle.std.specs.List.{list_all, list_any}
use Rattle.std.specs.Char.{is_ascii_alphabetic as is_letter}
use Rattle.std.proofs.lemmas.Bool.{and_parts}
use Rattle.scan_core.specs.Blanks.{is_blank}
use Rattle.scan_core.specs.Digits.{number_of}
use Rattle.scan_core.specs.Join.{IsJoin}
use Rattle.fancy_duration.specs.declared.part.DurationPart.{DurationPart}
use Rattle.fancy_duration.specs.declared.part.DurationPart.TheVariants.{Years, Months, Weeks, Days, Hours, Minutes, Seconds, Milliseconds}
use Rattle.fancy_duration.specs.declared.part.DurationPart.TheVariants.{Microseconds, Nanoseconds}
use Rattle.fancy_duration.specs.Parts.{weight_of, unit_of}
use Rattle.fancy_duration.specs.Items.{Item, HasItems, begins_by, has_no_item}
use Rattle.fancy_duration.specs.Sums.{SumsTo, is_long, long_follows, can_be, weight_in, total}
use Rattle.fancy_duration.specs.Strict.{IsCount, IsStrict}
use Rattle.fancy_duration.specs.Spelled.{AreMeant}
use Rattle.fancy_duration.specs.Spelled.{LengthCount, IsLengthCount, nanos_of_counts, SpellsLength}
use Rattle.fancy_duration.proofs.Counts.{is_unit-unit_of, begins_letter-blanks, blank_not_digit, digits_begin}
use Rattle.fancy_duration.proofs.ItemLists.{add_other}
use Rattle.fancy_duration.proofs.Totals.{sum_unique}

-- ---- counts are items

abbrev item_of : LengthCount → Item
item_of c = record { digits = c.digits; unit = unit_of c.part }

add_blanks : (blanks rest : List ℕ) (items : List Item) → list_all is_blank blanks ≡ true → HasItems rest items
    → HasItems (blanks ++ rest) items
add_blanks [] rest items all h = h
add_blanks (b ∷ bs) rest items all h =
    let parts = and_parts (is_blank b) (list_all is_blank bs) all in
    add_other b (bs ++ rest) items (blank_not_digit b parts.0) (add_blanks bs rest items parts.1 h)

counted_items : (text : List ℕ) (counts : List LengthCount) → IsJoin IsLengthCount text counts
    → HasItems text (map item_of counts) × (begins_by is_letter text ≡ false)
counted_items text [] none = (ap has_no_item none, ap (begins_by is_letter) none)
counted_items text (c ∷ cs) (piece, rest, is, more, split) =
    let below = counted_items rest cs more in
    let letter = begins_letter-blanks is.blanks rest is.are_blanks below.1 in
    let whole : text ≡ c.digits ++ (unit_of c.part ++ (is.blanks ++ rest)) =
    split ∙ ap (λ (l : List ℕ). l ++ rest) is.joined ∙ append_assoc c.digits (unit_of c.part ++ is.blanks) rest
    ∙ ap (λ (l : List ℕ). c.digits ++ l) (append_assoc (unit_of c.part) is.blanks rest) in
    let begin = digits_begin c.digits (unit_of c.part ++ (is.blanks ++ rest)) is.some_digits is.are_digits in (
      (
        is.blanks ++ rest,
        record {
          before = [];
          passed_over = refl;
          maximal = refl;
          some_digits = is.some_digits;
          are_digits = is.are_digits;
          has_unit = is_unit-unit_of c.part (is.blanks ++ rest) letter;
          joined = whole;
        },
        add_blanks is.blanks rest (map item_of cs) is.are_blanks below.0,
      ),
      ap (begins_by is_letter) whole ∙ begin.0,
    )

-- ---- their sum

long_part : (part : DurationPart) → is_long (unit_of part) ≡ nat_le (weight_of Minutes) (weight_of part)
long_part Years = refl
long_part Months = refl
long_part Weeks = refl
long_part Days = refl
long_part Hours = refl
long_part Minutes = refl
long_part Seconds = refl
long_part Milliseconds = refl
long_part Microseconds = refl
long_part Nanoseconds = refl

abbrev is_long_behind : List LengthCount → Bool
is_long_behind later = list_any (λ d. nat_le (weight_of Minutes) (weight_of d.part)) later

long_later : (later : List LengthCount) → long_follows (map item_of later) ≡ is_long_behind later
long_later [] = refl
long_later (c ∷ cs) = rw (long_part c.part, long_later cs) refl

weight_meant : (part : DurationPart) (long : Bool) → can_be part long ≡ true → weight_in (unit_of part) long ≡ weight_of part
weight_meant Years true h = refl
weight_meant Years false h = refl
weight_meant Months true h = refl
weight_meant Months false h = cc
weight_meant Weeks true h = refl
weight_meant Weeks false h = refl
weight_meant Days true h = refl
weight_meant Days false h = refl
weight_meant Hours true h = refl
weight_meant Hours false h = refl
weight_meant Minutes true h = cc
weight_meant Minutes false h = refl
weight_meant Seconds true h = refl
weight_meant Seconds false h = refl
weight_meant Milliseconds true h = refl
weight_meant Milliseconds false h = refl
weight_meant Microseconds true h = refl
weight_meant Microseconds false h = refl
weight_meant Nanoseconds true h = refl
weight_meant Nanoseconds false h = refl

same_sum : (counts : List LengthCount) → AreMeant counts → total (map item_of counts) ≡ nanos_of_counts counts
same_sum [] meant = refl
same_sum (c ∷ cs) meant =
    let weight : weight_in (unit_of c.part) (long_follows (map item_of cs)) ≡ weight_of c.part =
    ap (weight_in (unit_of c.part)) (long_later cs) ∙ weight_meant c.part (is_long_behind cs) meant.0 in
    ap (λ (n : ℕ). number_of c.digits * n + total (map item_of cs)) weight
    ∙ ap (λ (n : ℕ). number_of c.digits * weight_of c.part + n) (same_sum cs meant.1)

-- ---- a spelled text is strict, and has this sum

parts_joined : (text : List ℕ) (counts : List LengthCount) → IsJoin IsLengthCount text counts
    → IsJoin IsCount text (map (λ c. c.part) counts)
parts_joined text [] none = none
parts_joined text (c ∷ cs) (piece, rest, is, more, split) = (
  piece,
  rest,
  record {
    digits = c.digits;
    blanks = is.blanks;
    some_digits = is.some_digits;
    are_digits = is.are_digits;
    are_blanks = is.are_blanks;
    joined = is.joined;
  },
  parts_joined rest cs more,
  split,
)

some_parts : (counts : List LengthCount) → 0 < length counts → 0 < length (map (λ c. c.part) counts)
some_parts [] some = some
some_parts (c ∷ cs) some = omega arith

pub spelled_strict : (text : List ℕ) (nanos : ℕ) → SpellsLength text nanos → IsStrict text
spelled_strict text nanos (inl zero) = inl zero.0
spelled_strict text nanos (inr (counts, some, join, meant, sum)) =
    inr (map (λ c. c.part) counts, some_parts counts some, parts_joined text counts join)

pub spelled_sum : (text : List ℕ) (nanos : ℕ) → SpellsLength text nanos → SumsTo text nanos
spelled_sum text nanos (inl zero) = record { items = []; all = ap has_no_item zero.0; sum = zero.1 }
spelled_sum text nanos (inr (counts, some, join, meant, sum)) =
    record { items = map item_of counts; all = (counted_items text counts join).0; sum = sum ∙ sym (same_sum counts meant) }

-- ---- a strict text spells its sum

-- the part that a unit means
right_part : DurationPart → Bool → DurationPart
right_part Months long = if long then Months else Minutes
right_part Minutes long = if long then Months else Minutes
right_part part long = part

right_unit : (part : DurationPart) (long : Bool) → unit_of (right_part part long) ≡ unit_of part
unfolding right_part
right_unit Years long = refl
right_unit Months true = refl
right_unit Months false = refl
right_unit Weeks long = refl
right_unit Days long = refl
right_unit Hours long = refl
right_unit Minutes true = refl
right_unit Minutes false = refl
right_unit Seconds long = refl
right_unit Milliseconds long = refl
right_unit Microseconds long = refl
right_unit Nanoseconds long = refl

right_meant : (part : DurationPart) (long : Bool) → can_be (right_part part long) long ≡ true
unfolding right_part
right_meant Years long = refl
right_meant Months true = refl
right_meant Months false = refl
right_meant Weeks long = refl
right_meant Days long = refl
right_meant Hours long = refl
right_meant Minutes true = refl
right_meant Minutes false = refl
right_meant Seconds long = refl
right_meant Milliseconds long = refl
right_meant Microseconds long = refl
right_meant Nanoseconds long = refl

-- counts of the same pieces, each with the part that its unit means
pub record HasCounts (text : List ℕ) (parts : List DurationPart) : Type 0 where
  pub counts : List LengthCount
  pub join : IsJoin IsLengthCount text counts
  pub meant : AreMeant counts
  pub same : length counts ≡ length parts

counts_meant : (text : List ℕ) (parts : List DurationPart) → IsJoin IsCount text parts → HasCounts text parts
counts_meant text [] none = record { counts = []; join = none; meant = tt; same = refl }
counts_meant text (part ∷ parts) (piece, rest, is, more, split) =
    let below = counts_meant rest parts more in
    let long : Bool = is_long_behind below.counts in
    let c : LengthCount = record { digits = is.digits; part = right_part part long } in
    let first : IsLengthCount piece c = record {
      blanks = is.blanks;
      some_digits = is.some_digits;
      are_digits = is.are_digits;
      are_blanks = is.are_blanks;
      joined = is.joined ∙ ap (λ (l : List ℕ). is.digits ++ (l ++ is.blanks)) (sym (right_unit part long));
    } in
    record {
      counts = c ∷ below.counts;
      join = (piece, rest, first, below.join, split);
      meant = (right_meant part long, below.meant);
      same = ap suc below.same;
    }

spelled_some : (text : List ℕ) → IsStrict text → (nanos : ℕ) × SpellsLength text nanos
spelled_some text (inl zero) = (0, inl (zero, refl))
spelled_some text (inr (parts, some, join)) =
    let has = counts_meant text parts join in
    (nanos_of_counts has.counts, inr (has.counts, subst (λ (n : ℕ). 0 < n) (sym has.same) some, has.join, has.meant, refl))

pub strict_spelled : (text : List ℕ) (nanos : ℕ) → IsStrict text → SumsTo text nanos → SpellsLength text nanos
strict_spelled text nanos strict sums =
    let spelled = spelled_some text strict in
    let same : spelled.0 ≡ nanos = sum_unique text spelled.0 (spelled_sum text spelled.0 spelled.1) ∙ sym (sum_unique text nanos sums) in
    subst (λ (n : ℕ). SpellsLength text n) same spelled.1
