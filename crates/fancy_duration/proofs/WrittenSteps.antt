-- The written text as the public definition says it is that of the counts above 0.
use Rattle.std.proofs.Common.{◌≡◌, ℕ, zero, suc, ◌<◌, ◌/◌, ◌%◌, ◌==◌, true, false, nat_eq, List, [], ◌∷◌, ◌++◌, map}
use Rattle.std.proofs.Common.{decimal, codes, refl, ap, arith, if◌then◌else◌}
use Rattle.std.specs.List.{join_with_byte}
use Rattle.std.proofs.lemmas.Bool.{eqb-true, lt-ltb}
use Rattle.fancy_duration.specs.declared.part.DurationPart.{DurationPart}
use Rattle.fancy_duration.specs.Parts.{all_parts, unit_of, weight_of}
use Rattle.fancy_duration.specs.Breakdown.{PartCount, breakdown, counts_of}
use Rattle.fancy_duration.specs.Written.{length_text, length_words}
use Rattle.fancy_duration.specs.inside.Writing.{above_zero, length_steps, piece}

above : (n : ℕ) → nat_eq n 0 ≡ false → 0 < n
above zero e = absurd (let h : nat_eq 0 0 ≡ false = e in cc)
above (suc n) e = omega arith

-- one count goes on in front where it isn't 0
one_more : (n : ℕ) (part : DurationPart) (counts : List PartCount) (words : List (List ℕ)) → words ≡ map piece (above_zero counts)
    → (if n == 0 then [] else ((decimal n ++ unit_of part) ∷ [])) ++ words
    ≡ map piece (above_zero (record { part = part; count = n } ∷ counts))
one_more n part counts words more =
    elim (nat_eq n 0) as (λ t. nat_eq n 0 ≡ t → (if n == 0 then [] else ((decimal n ++ unit_of part) ∷ [])) ++ words
    ≡ map piece (above_zero (record { part = part; count = n } ∷ counts))) [
      | true ↦ λ e. rw (eqb-true n 0 e) more
      | false ↦ λ e. simp (e, lt-ltb 0 n (above n e)) (ap (λ (ws : List (List ℕ)). (decimal n ++ unit_of part) ∷ ws) more)
    ] refl

words_are : (parts : List DurationPart) (left : ℕ) → length_words parts left ≡ map piece (above_zero (counts_of parts left))
words_are [] left = refl
words_are (part ∷ parts) left = one_more (left / weight_of part) part (counts_of parts (left % weight_of part))
    (length_words parts (left % weight_of part)) (words_are parts (left % weight_of part))

pub length_in_steps : (nanos : ℕ) → length_text nanos ≡ length_steps nanos
unfolding length_text length_steps breakdown
length_in_steps nanos = ap (λ (words : List (List ℕ)). if nanos == 0 then codes "0" else join_with_byte 32 words)
    (words_are all_parts nanos)
