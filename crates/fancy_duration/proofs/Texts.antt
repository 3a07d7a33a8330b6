-- The items and the sum of a written text.
use Rattle.std.proofs.Common.{◌≡◌, ℕ, ◌+◌, ◌*◌, ◌^◌, ◌<◌, true, false, ◌&&◌, ◌||◌, nat_lt, nat_eq, List, [], ◌∷◌, ◌++◌, map, decimal, refl}
use Rattle.std.proofs.Common.{ap, subst, arith, append_assoc, append-nil}
use Rattle.std.specs.List.{join_with_byte}
use Rattle.std.specs.Char.{is_ascii_alphabetic as is_letter}
use Rattle.std.proofs.lemmas.Bool.{and_parts, ltb-true, ltb-false, eqb-true}
use Rattle.std.proofs.lemmas.Fmt.{decimal_is_IsNumeral}
use Rattle.fancy_duration.specs.Parts.{all_parts, unit_of}
use Rattle.fancy_duration.specs.Items.{Item, HasItems, IsFirstItem, begins_by}
use Rattle.fancy_duration.specs.Sums.{is_long, long_follows, weight_in, total}
use Rattle.fancy_duration.specs.Breakdown.{PartCount, counts_of, breakdown}
use Rattle.fancy_duration.specs.Written.{length_text}
use Rattle.fancy_duration.specs.inside.Writing.{piece, above_zero, length_steps}
use Rattle.fancy_duration.proofs.WrittenSteps.{length_in_steps}
use Rattle.fancy_duration.specs.inside.Writing.{counts_fit}
use Rattle.fancy_duration.proofs.ItemLists.{add_other}
use Rattle.fancy_duration.proofs.Counts.{is_unit-unit_of}

-- the item that a written count is
abbrev pub item_of : PartCount → Item
item_of c = record { digits = decimal c.count; unit = unit_of c.part }

first_piece : (c : PartCount) (rest : List ℕ) → c.count < 2 ^ 64 → begins_by is_letter rest ≡ false
    → IsFirstItem (piece c ++ rest) (item_of c) rest
first_piece c rest fits letter =
    let numeral = decimal_is_IsNumeral c.count fits in
    record {
      before = [];
      passed_over = refl;
      maximal = refl;
      some_digits = numeral.0.0;
      are_digits = numeral.0.1;
      has_unit = is_unit-unit_of c.part rest letter;
      joined = append_assoc (decimal c.count) (unit_of c.part) rest;
    }

pub items_joined : (counts : List PartCount) → counts_fit counts ≡ true
    → HasItems (join_with_byte 32 (map piece counts)) (map item_of counts)
items_joined [] fits = refl
items_joined (c ∷ []) fits =
    let first = first_piece c [] (ltb-true _ _ (and_parts (nat_lt c.count (2 ^ 64)) true fits).0) refl in
    let P : List ℕ → Type 0 = λ text. IsFirstItem text (item_of c) [] in
    ([], subst P (append-nil (piece c)) first, refl)
items_joined (c ∷ d ∷ counts) fits =
    let parts = and_parts (nat_lt c.count (2 ^ 64)) (counts_fit (d ∷ counts)) fits in
    let rest = 32 ∷ join_with_byte 32 (map piece (d ∷ counts)) in (
      rest,
      first_piece c rest (ltb-true _ _ parts.0) refl,
      add_other 32 (join_with_byte 32 (map piece (d ∷ counts)))
          (map item_of (d ∷ counts)) refl (items_joined (d ∷ counts) parts.1),
    )

pub above_fits : (counts : List PartCount) → counts_fit counts ≡ true → counts_fit (above_zero counts) ≡ true
above_fits [] fits = refl
above_fits (c ∷ counts) fits =
    let parts = and_parts (nat_lt c.count (2 ^ 64)) (counts_fit counts) fits in
    elim (nat_lt 0 c.count) as (λ t. nat_lt 0 c.count ≡ t → counts_fit (above_zero (c ∷ counts)) ≡ true) [
      | true ↦ λ e. simp (e, parts.0) (above_fits counts parts.1)
      | false ↦ λ e. simp e (above_fits counts parts.1)
    ] refl

-- the items of the text are the counts above 0
steps_items : (nanos : ℕ) → counts_fit (breakdown nanos) ≡ true
    → HasItems (length_steps nanos) (map item_of (above_zero (breakdown nanos)))
unfolding length_steps breakdown
steps_items nanos fits =
    elim (nat_eq nanos 0) as (λ t. nat_eq nanos 0 ≡ t → HasItems (length_steps nanos) (map item_of (above_zero (breakdown nanos)))) [
      | true ↦ λ e. let z : nanos ≡ 0 = eqb-true nanos 0 e in rw z (refl {a = true})
      | false ↦ λ e. simp e (items_joined (above_zero (counts_of all_parts nanos)) (above_fits (counts_of all_parts nanos) fits))
    ] refl

pub written_items : (nanos : ℕ) → counts_fit (breakdown nanos) ≡ true
    → HasItems (length_text nanos) (map item_of (above_zero (breakdown nanos)))
written_items nanos fits = rw (length_in_steps nanos) (steps_items nanos fits)

-- the sum goes by the counts, those of 0 too
abbrev pub items_in : List PartCount → List Item
items_in counts = map item_of (above_zero counts)

pub total-cons : (c : PartCount) (counts : List PartCount) → c.count < 2 ^ 64
    → total (items_in (c ∷ counts)) ≡ c.count * weight_in (unit_of c.part) (long_follows (items_in counts)) + total (items_in counts)
total-cons c counts fits =
    elim (nat_lt 0 c.count) as (λ t. nat_lt 0 c.count ≡ t → total (items_in (c ∷ counts))
    ≡ c.count * weight_in (unit_of c.part) (long_follows (items_in counts)) + total (items_in counts)) [
      | true ↦ λ e. simp e (ap (λ n. n * weight_in (unit_of c.part) (long_follows (items_in counts)) + total (items_in counts))
          (decimal_is_IsNumeral c.count fits).1)
      | false ↦ λ e. let z : c.count ≡ 0 = omega (arith, ltb-false 0 c.count e) in simp e (rw z (omega arith))
    ] refl

pub long-cons : (c : PartCount) (counts : List PartCount)
    → long_follows (items_in (c ∷ counts)) ≡ ((nat_lt 0 c.count && is_long (unit_of c.part)) || long_follows (items_in counts))
long-cons c counts =
    elim (nat_lt 0 c.count) as (λ t. nat_lt 0 c.count ≡ t → long_follows (items_in (c ∷ counts))
    ≡ ((nat_lt 0 c.count && is_long (unit_of c.part)) || long_follows (items_in counts))) [
      | true ↦ λ e. simp e
      | false ↦ λ e. simp e
    ] refl
