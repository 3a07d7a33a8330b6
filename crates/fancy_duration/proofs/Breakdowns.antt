-- The loops over the ten parts of a breakdown.
use Rattle.std.proofs.Common.{◌≡◌, ℕ, ◌+◌, ◌-◌, ◌*◌, ◌/◌, ◌%◌, ◌<◌, ◌≤◌, true, false, List, [], ◌∷◌, length, get_or, take, drop, zero, suc}
use Rattle.std.proofs.Common.{refl, sym, ◌∙◌, ap, arith, add-one, drop-cons, min, if◌then◌else◌}
use Rattle.std.proofs.lemmas.Nat.{div-add-mod'}
use Rattle.std.proofs.lemmas.List.{drop_all, take_min}
use Rattle.std.specs.List.{list_any}
use Rattle.fancy_duration.specs.declared.part.DurationPart.{DurationPart}
use Rattle.fancy_duration.specs.Parts.{all_parts, weight_of, is_part}
use Rattle.fancy_duration.specs.Breakdown.{counts_of, breakdown, nanos_in, from_first, kept_length, front_length}
use Rattle.fancy_duration.specs.inside.Writing.{kept_in, left_after}

pub filtered_all : (kept : List DurationPart) (nanos : ℕ) → kept_in kept all_parts nanos ≡ kept_length kept nanos
unfolding kept_length kept_in breakdown
filtered_all kept nanos = refl

pub kept_in-none : (kept : List DurationPart) (left : ℕ) → kept_in kept [] left ≡ 0
unfolding kept_in
kept_in-none kept left = refl

-- a quotient times its divisor
quotient_part : (n d : ℕ) → n / d * d ≡ n - n % d
quotient_part n d = omega (arith, div-add-mod' n d)

pub kept_in-cons : (kept : List DurationPart) (part : DurationPart) (parts : List DurationPart) (left : ℕ)
    → kept_in kept (part ∷ parts) left ≡ (if list_any (λ p. is_part p part) kept then left - left % weight_of part else 0)
    + kept_in kept parts (left % weight_of part)
unfolding kept_in
kept_in-cons kept part parts left =
    elim (list_any (λ p. is_part p part) kept) as (λ t. list_any (λ p. is_part p part) kept ≡ t
    → kept_in kept (part ∷ parts) left ≡ (if list_any (λ p. is_part p part) kept then left - left % weight_of part else 0)
    + kept_in kept parts (left % weight_of part)) [
      | true ↦ λ e. simp (e, quotient_part left (weight_of part))
      | false ↦ λ e. simp e (omega arith)
    ] refl

pub parts_end : (i : ℕ) → 10 ≤ i → drop i all_parts ≡ []
parts_end i h = drop_all i all_parts h

pub parts_more : (i : ℕ) (d : DurationPart) → i < 10
    → drop i all_parts ≡ get_or all_parts i d ∷ drop (i + 1) all_parts
parts_more i d h = rw add-one (drop-cons all_parts i d h)

-- one step of the loop over the parts, at a part that is kept and at one that isn't
pub keeps_part : (kept parts more : List DurationPart) (part : DurationPart) (left weight sum sum' left' : ℕ)
    → parts ≡ part ∷ more → weight ≡ weight_of part → list_any (λ p. is_part p part) kept ≡ true
    → sum' ≡ sum + (left - left % weight) → left' ≡ left % weight
    → sum' + kept_in kept more left' ≡ sum + kept_in kept parts left
keeps_part kept parts more part left weight sum sum' left' split w among s l =
    let step = kept_in-cons kept part more left in
    rw (s, l, split, step, among, w) (omega arith)

pub skips_part : (kept parts more : List DurationPart) (part : DurationPart) (left weight sum sum' left' : ℕ)
    → parts ≡ part ∷ more → weight ≡ weight_of part → list_any (λ p. is_part p part) kept ≡ false
    → sum' ≡ sum → left' ≡ left % weight
    → sum' + kept_in kept more left' ≡ sum + kept_in kept parts left
skips_part kept parts more part left weight sum sum' left' split w among s l =
    let step = kept_in-cons kept part more left in
    rw (s, l, split, step, among, w) (omega arith)

pub kept_in_end : (kept : List DurationPart) (i left : ℕ) → 10 ≤ i → kept_in kept (drop i all_parts) left ≡ 0
kept_in_end kept i left h = ap (λ parts. kept_in kept parts left) (parts_end i h) ∙ kept_in-none kept left

-- the first counts are those of the first parts
take-counts_of : (limit : ℕ) (parts : List DurationPart) (left : ℕ)
    → take limit (counts_of parts left) ≡ counts_of (take limit parts) left
take-counts_of zero parts left = refl
take-counts_of (suc limit) [] left = refl
take-counts_of (suc limit) (part ∷ parts) left = ap (λ counts. record { part = part; count = left / weight_of part } ∷ counts)
    (take-counts_of limit parts (left % weight_of part))

-- counts are what isn't left
pub nanos_in-counts_of : (parts : List DurationPart) (left : ℕ)
    → nanos_in (counts_of parts left) + left_after parts left ≡ left
nanos_in-counts_of [] left = omega arith
nanos_in-counts_of (part ∷ parts) left = omega (arith, nanos_in-counts_of parts (left % weight_of part), div-add-mod' left (weight_of part))

-- the parts that stay of a length
pub truncated_by : (limit nanos end : ℕ) (parts : List DurationPart) (left : ℕ)
    → counts_of parts nanos ≡ from_first (counts_of all_parts nanos)
    → end ≡ min limit (length parts) → left ≡ left_after (take end parts) nanos
    → nanos - left ≡ front_length limit nanos
unfolding front_length breakdown
truncated_by limit nanos end parts left begin e l =
    let stays = take limit parts in
    let same : left ≡ left_after stays nanos = l ∙ ap (λ ps. left_after ps nanos) (ap (λ n. take n parts) e ∙ take_min limit parts) in
    let cut : nanos_in (take limit (from_first (counts_of all_parts nanos)))
    ≡ nanos_in (counts_of stays nanos) = ap (λ counts. nanos_in (take limit counts)) (sym begin)
    ∙ ap nanos_in (take-counts_of limit parts nanos) in
    let whole : nanos_in (counts_of stays nanos) + left_after stays nanos ≡ nanos = nanos_in-counts_of stays nanos in
    let difference : nanos - left ≡ nanos_in (counts_of stays nanos) = omega arith in
    difference ∙ sym cut
