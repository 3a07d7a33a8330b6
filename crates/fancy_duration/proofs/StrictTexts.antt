-- A written text is a strict one.
use Rattle.std.proofs.Common.{◌≡◌, ℕ, ◌*◌, ◌^◌, ◌<◌, true, false, nat_lt, nat_eq, List, [], ◌∷◌, ◌++◌, length, map, decimal, refl, sym, ◌∙◌}
use Rattle.std.proofs.Common.{ap, arith, append_assoc, append-nil, inl, inr}
use Rattle.std.specs.List.{join_with_byte, list_all}
use Rattle.scan_core.specs.Blanks.{is_blank}
use Rattle.std.proofs.lemmas.Bool.{and_parts, ltb-true, ltb-false, eqb-false}
use Rattle.std.proofs.lemmas.Fmt.{decimal_is_IsNumeral}
use Rattle.scan_core.specs.Join.{IsJoin}
use Rattle.fancy_duration.specs.Parts.{unit_of}
use Rattle.fancy_duration.specs.Breakdown.{PartCount, breakdown, nanos_in}
use Rattle.fancy_duration.specs.Written.{length_text}
use Rattle.fancy_duration.specs.inside.Writing.{piece, above_zero, length_steps}
use Rattle.fancy_duration.proofs.WrittenSteps.{length_in_steps}
use Rattle.fancy_duration.specs.Strict.{IsCount, IsStrict}
use Rattle.fancy_duration.specs.inside.Writing.{counts_fit}
use Rattle.fancy_duration.proofs.Texts.{above_fits}
use Rattle.fancy_duration.proofs.ReadBack.{breakdown_sum, breakdown_fits}

-- a count with these blanks behind it
is_count : (c : PartCount) (blanks : List ℕ) → c.count < 2 ^ 64 → list_all is_blank blanks ≡ true
    → IsCount (piece c ++ blanks) c.part
is_count c blanks fits blank =
    let numeral = decimal_is_IsNumeral c.count fits in
    record {
      digits = decimal c.count;
      blanks = blanks;
      some_digits = numeral.0.0;
      are_digits = numeral.0.1;
      are_blanks = blank;
      joined = append_assoc (decimal c.count) (unit_of c.part) blanks;
    }

-- counts with a space between each two are a join of counts
joined_counts : (counts : List PartCount) → counts_fit counts ≡ true
    → IsJoin IsCount (join_with_byte 32 (map piece counts)) (map (λ c. c.part) counts)
joined_counts [] fits = refl
joined_counts (c ∷ []) fits =
    let first = is_count c [] (ltb-true _ _ (and_parts (nat_lt c.count (2 ^ 64)) true fits).0) refl in
    (piece c ++ [], [], first, refl, sym (append-nil (piece c ++ []) ∙ append-nil (piece c)))
joined_counts (c ∷ d ∷ counts) fits =
    let parts = and_parts (nat_lt c.count (2 ^ 64)) (counts_fit (d ∷ counts)) fits in
    let rest = join_with_byte 32 (map piece (d ∷ counts)) in
    let first = is_count c (32 ∷ []) (ltb-true _ _ parts.0) refl in
    (piece c ++ 32 ∷ [], rest, first, joined_counts (d ∷ counts) parts.1, sym (append_assoc (piece c) (32 ∷ []) rest))

-- where no count is above 0, there is no length
nothing_above : (counts : List PartCount) → above_zero counts ≡ [] → nanos_in counts ≡ 0
nothing_above [] none = refl
nothing_above (c ∷ counts) none =
    elim (nat_lt 0 c.count) as (λ t. nat_lt 0 c.count ≡ t → nanos_in (c ∷ counts) ≡ 0) [
      | true ↦ λ e. absurd (let some = simp e at none in omega (arith, ap length some))
      | false ↦ λ e. let zero : c.count ≡ 0 = omega (arith, ltb-false 0 c.count e) in let more =
          nothing_above counts (let h = simp e at none in h) in rw zero (omega (arith, more))
    ] refl

some_parts : (counts : List PartCount) → (counts ≡ [] → ⊥) → 0 < length (map (λ c. c.part) counts)
some_parts [] some = absurd (some refl)
some_parts (c ∷ counts) some = omega arith

steps_strict : (nanos : ℕ) → nanos < 2 ^ 64 * 1_000_000_000 → IsStrict (length_steps nanos)
unfolding length_steps
steps_strict nanos small =
    elim (nat_eq nanos 0) as (λ t. nat_eq nanos 0 ≡ t → IsStrict (length_steps nanos)) [
      | true ↦ λ e. simp e (inl refl)
      | false ↦ λ e. simp e (inr (
        map (λ c. c.part) counts,
        some_parts counts (λ none. absurd (eqb-false nanos 0 e (sym (breakdown_sum nanos) ∙ nothing_above (breakdown nanos) none))),
        joined_counts counts (above_fits (breakdown nanos) (breakdown_fits nanos small)),
      ))
    ] refl
  where
    counts : List PartCount
    counts = above_zero (breakdown nanos)

pub written_strict : (nanos : ℕ) → nanos < 2 ^ 64 * 1_000_000_000 → IsStrict (length_text nanos)
written_strict nanos small = rw (length_in_steps nanos) (steps_strict nanos small)
