-- Which two lengths have one written text.
use Rattle.std.proofs.Common.{◌≡◌, ◌≢◌, ◌↔◌, ℕ, ◌+◌, ◌*◌, ◌%◌, ◌^◌, ◌<◌, true, false, nat_lt, nat_eq, List, [], ◌∷◌, map, refl, sym, ◌∙◌}
use Rattle.std.proofs.Common.{ap, subst, ⊎_elim, inl, inr, arith}
use Rattle.std.specs.Prelude.{⊤}
use Rattle.std.specs.List.{join_with_byte}
use Rattle.std.proofs.Math.Nat.{mod-lt}
use Rattle.std.proofs.lemmas.Nat.{div-mul-add, mod-mul-add}
use Rattle.std.proofs.lemmas.Bool.{lt-ltb, ne_eqb}
use Rattle.fancy_duration.specs.declared.part.DurationPart.{DurationPart}
use Rattle.fancy_duration.specs.declared.part.DurationPart.TheVariants.{Years, Months, Weeks, Days, Hours, Minutes, Seconds, Milliseconds}
use Rattle.fancy_duration.specs.declared.part.DurationPart.TheVariants.{Microseconds, Nanoseconds}
use Rattle.fancy_duration.specs.Parts.{all_parts, weight_of}
use Rattle.fancy_duration.specs.Times.{nanos_of}
use Rattle.fancy_duration.specs.Sums.{total}
use Rattle.fancy_duration.specs.Breakdown.{PartCount, counts_of, breakdown, nanos_in, count_in, count_of}
use Rattle.fancy_duration.specs.Written.{length_text}
use Rattle.fancy_duration.specs.inside.Writing.{piece, above_zero, length_steps}
use Rattle.fancy_duration.proofs.WrittenSteps.{length_in_steps}
use Rattle.fancy_duration.specs.inside.Reading.{items_of}
use Rattle.fancy_duration.specs.Collisions.{MonthsStandAlone, Swaps, Collide}
use Rattle.fancy_duration.proofs.Breakdowns.{nanos_in-counts_of}
use Rattle.fancy_duration.proofs.Twice.{weight_some}
use Rattle.fancy_duration.proofs.ReadBack.{of, ten, breakdown_ten, breakdown_sum, read_alone, read_whole}

-- what stands behind each count is less than one of its part
abbrev Reduced : List PartCount → Type 0
Reduced [] = ⊤
Reduced (c ∷ counts) = (nanos_in counts < weight_of c.part) × Reduced counts

reduced-counts_of : (parts : List DurationPart) (n : ℕ) → Reduced (counts_of parts n)
reduced-counts_of [] n = tt
reduced-counts_of (part ∷ parts) n = (
  omega (arith, nanos_in-counts_of parts (n % weight_of part), mod-lt n (weight_some part)),
  reduced-counts_of parts (n % weight_of part),
)

-- such counts are the counts of the length that they make
counts_back : (counts : List PartCount) → Reduced counts
    → counts_of (map (λ c. c.part) counts) (nanos_in counts) ≡ counts
counts_back [] h = refl
counts_back (c ∷ counts) h =
    let w = weight_of c.part in
    rw (div-mul-add c.count w (nanos_in counts) h.0, mod-mul-add c.count w (nanos_in counts) h.0)
    (ap (λ cs. c ∷ cs) (counts_back counts h.1))

-- the counts of a length with months and nothing between, and of the one with minutes in their place
abbrev with_months : ℕ → ℕ → ℕ → ℕ → ℕ → ℕ → List PartCount
with_months y k s ms us ns = ten y k 0 0 0 0 s ms us ns

abbrev with_minutes : ℕ → ℕ → ℕ → ℕ → ℕ → ℕ → List PartCount
with_minutes y k s ms us ns = ten y 0 0 0 0 k s ms us ns

pub breakdown_reduced : (n : ℕ) → Reduced (breakdown n)
unfolding breakdown
breakdown_reduced n = reduced-counts_of all_parts n

reduced_minutes : (y k s ms us ns : ℕ) → Reduced (with_months y k s ms us ns)
    → Reduced (with_minutes y k s ms us ns)
reduced_minutes y k s ms us ns h =
    let below : nanos_in (of Seconds s ∷ of Milliseconds ms ∷ of Microseconds us ∷ of Nanoseconds ns ∷ [])
    < weight_of Minutes = h.1.1.1.1.1.0 in (
      omega (arith, h.0, below),
      (
        omega (arith, h.0, below),
        (
          omega (arith, h.0, below),
          (
            omega (arith, h.0, below),
            (
              omega (arith, h.0, below),
              h.1.1.1.1.1,
            ),
          ),
        ),
      ),
    )

pub breakdown_from : (counts : List PartCount) (n : ℕ) → map (λ c. c.part) counts ≡ all_parts
    → Reduced counts → nanos_in counts ≡ n → breakdown n ≡ counts
unfolding breakdown
breakdown_from counts n parts h e = ap (λ m. counts_of all_parts m) (sym e) ∙ ap (λ ps. counts_of ps (nanos_in counts)) (sym parts)
    ∙ counts_back counts h

count_in-breakdown : (part : DurationPart) (n : ℕ) → count_of part n ≡ count_in part (breakdown n)
unfolding count_of
count_in-breakdown part n = refl

-- the counts of a length whose months stand alone
alone_counts : (n : ℕ) → MonthsStandAlone n
    → breakdown n ≡ with_months (count_of Years n) (count_of Months n) (count_of Seconds n) (count_of Milliseconds n)
    (count_of Microseconds n) (count_of Nanoseconds n)
alone_counts n alone =
    breakdown_ten n ∙ (λ i. ten (count_of Years n) (count_of Months n) (alone.weeks i) (alone.days i) (alone.hours i) (alone.minutes i)
    (count_of Seconds n) (count_of Milliseconds n) (count_of Microseconds n) (count_of Nanoseconds n))

-- a length whose months stand alone, and the one that its text is read as
swaps : (s t y k sec ms us ns : ℕ) → 0 < k → breakdown s ≡ with_months y k sec ms us ns
    → t + k * weight_of Months ≡ s + k * weight_of Minutes → Swaps k s t
swaps s t y k sec ms us ns some bs e =
    let reduced : Reduced (with_months y k sec ms us ns) = subst Reduced bs (breakdown_reduced s) in
    let sum : nanos_in (with_months y k sec ms us ns) ≡ s = ap nanos_in (sym bs) ∙ breakdown_sum s in
    let bt : breakdown t ≡ with_minutes y k sec ms us ns = breakdown_from (with_minutes y k sec ms us ns) t refl
    (reduced_minutes y k sec ms us ns reduced) (omega (arith, sum, e)) in
    let in_s = λ (part : DurationPart). count_in-breakdown part s ∙ ap (count_in part) bs in
    let in_t = λ (part : DurationPart). count_in-breakdown part t ∙ ap (count_in part) bt in
    record {
      some = some;
      within = omega (arith, reduced.0);
      first_months = in_s Months;
      first_minutes = in_s Minutes;
      second_months = in_t Months;
      second_minutes = in_t Minutes;
      weeks = (in_s Weeks, in_t Weeks);
      days = (in_s Days, in_t Days);
      hours = (in_s Hours, in_t Hours);
      years = in_s Years ∙ sym (in_t Years);
      seconds = in_s Seconds ∙ sym (in_t Seconds);
      milliseconds = in_s Milliseconds ∙ sym (in_t Milliseconds);
      microseconds = in_s Microseconds ∙ sym (in_t Microseconds);
      nanoseconds = in_s Nanoseconds ∙ sym (in_t Nanoseconds);
    }

alone_swaps : (s t : ℕ) → MonthsStandAlone s
    → t + count_of Months s * weight_of Months ≡ s + count_of Months s * weight_of Minutes
    → Swaps (count_of Months s) s t
alone_swaps s t alone e = swaps s t (count_of Years s) (count_of Months s) (count_of Seconds s) (count_of Milliseconds s)
    (count_of Microseconds s) (count_of Nanoseconds s) alone.months (alone_counts s alone) e

-- two lengths whose months stand alone and that are read as one are one
both_alone : (s t r : ℕ) → MonthsStandAlone s → MonthsStandAlone t
    → r + count_of Months s * weight_of Months ≡ s + count_of Months s * weight_of Minutes
    → r + count_of Months t * weight_of Months ≡ t + count_of Months t * weight_of Minutes → s ≡ t
both_alone s t r alone_s alone_t es et =
    let first = alone_swaps s r alone_s es in
    let second = alone_swaps t r alone_t et in
    let months : count_of Months s ≡ count_of Months t = sym first.second_minutes ∙ second.second_minutes in
    omega (arith, es, et, months)

pub shared : (s t : ℕ) → s < 2 ^ 64 * 1_000_000_000 → t < 2 ^ 64 * 1_000_000_000
    → length_text s ≡ length_text t → s ≢ t → Collide s t
shared s t hs ht e differ =
    let same : total (items_of (length_text s)) ≡ total (items_of (length_text t)) = ap (λ text. total (items_of text)) e in
    ⊎_elim
    (λ (whole_s : total (items_of (length_text s)) ≡ s).
    ⊎_elim
    (λ (whole_t : total (items_of (length_text t)) ≡ t). absurd (differ (sym whole_s ∙ same ∙ whole_t)))
    (λ (alone_t : MonthsStandAlone t). (
      count_of Months t,
      inr (alone_swaps t s alone_t
          (omega (arith, whole_s, same, read_alone t ht alone_t))),
    ))
    (read_whole t ht))
    (λ (alone_s : MonthsStandAlone s).
    ⊎_elim
    (λ (whole_t : total (items_of (length_text t)) ≡ t). (
      count_of Months s,
      inl (alone_swaps s t alone_s (omega (arith, whole_t, same, read_alone s hs alone_s))),
    ))
    (λ (alone_t : MonthsStandAlone t). absurd (differ (both_alone s t (total (items_of (length_text s))) alone_s alone_t
    (read_alone s hs alone_s) (omega (arith, same, read_alone t ht alone_t)))))
    (read_whole t ht))
    (read_whole s hs)

-- such lengths have one text
written_counts : (n : ℕ) → n ≢ 0 → length_text n ≡ join_with_byte 32 (map piece (above_zero (breakdown n)))
unfolding length_steps
written_counts n h = let e : nat_eq n 0 ≡ false = ne_eqb n 0 h in rw (length_in_steps n) (simp e)

no_months : count_of Months 0 ≡ 0
unfolding count_of breakdown
no_months = refl

no_minutes : count_of Minutes 0 ≡ 0
unfolding count_of breakdown
no_minutes = refl

same_pieces : (y k s ms us ns : ℕ) → 0 < k
    → map piece (above_zero (with_months y k s ms us ns)) ≡ map piece (above_zero (with_minutes y k s ms us ns))
same_pieces y k s ms us ns some =
    let e : nat_lt 0 k ≡ true = lt-ltb 0 k some in
    elim (nat_lt 0 y) as (λ t. nat_lt 0 y ≡ t → map piece (above_zero (with_months y k s ms us ns))
    ≡ map piece (above_zero (with_minutes y k s ms us ns))) [
      | true ↦ λ f. simp (e, f)
      | false ↦ λ f. simp (e, f)
    ] refl

swapped : (k a b : ℕ) → Swaps k a b → length_text a ≡ length_text b
swapped k a b h =
    let y = count_of Years a in
    let s = count_of Seconds a in
    let ms = count_of Milliseconds a in
    let us = count_of Microseconds a in
    let ns = count_of Nanoseconds a in
    let text : List PartCount → List ℕ = λ counts. join_with_byte 32 (map piece (above_zero counts)) in
    let first : breakdown a ≡ with_months y k s ms us ns =
    breakdown_ten a ∙ (λ i. ten y (h.first_months i) (h.weeks.0 i) (h.days.0 i) (h.hours.0 i) (h.first_minutes i) s ms us ns) in
    let second : breakdown b ≡ with_minutes y k s ms us ns =
    breakdown_ten b ∙ (λ i. ten (sym h.years i) (h.second_months i) (h.weeks.1 i) (h.days.1 i) (h.hours.1 i) (h.second_minutes i)
    (sym h.seconds i) (sym h.milliseconds i) (sym h.microseconds i) (sym h.nanoseconds i)) in
    let some_a : a ≢ 0 = λ e. absurd (omega (arith, h.some, h.first_months, ap (count_of Months) e ∙ no_months)) in
    let some_b : b ≢ 0 = λ e. absurd (omega (arith, h.some, h.second_minutes, ap (count_of Minutes) e ∙ no_minutes)) in
    written_counts a some_a ∙ ap text first ∙ ap (join_with_byte 32) (same_pieces y k s ms us ns h.some)
    ∙ sym (written_counts b some_b ∙ ap text second)

pub collided : (s t : ℕ) → Collide s t → length_text s ≡ length_text t
collided s t (k, inl h) = swapped k s t h
collided s t (k, inr h) = sym (swapped k t s h)

-- over seconds and nanoseconds
pub collisions : (s t : ℕ × ℕ) → s.0 < 2 ^ 64 → t.0 < 2 ^ 64 → s.1 < 1_000_000_000
    → t.1 < 1_000_000_000 → s ≢ t
    → (length_text (nanos_of s) ≡ length_text (nanos_of t)) ↔ Collide (nanos_of s) (nanos_of t)
collisions s t fs ft bs bt differ = (
  λ e. shared (nanos_of s) (nanos_of t) (omega arith) (omega arith) e (λ same. differ (one_pair same)),
  collided (nanos_of s) (nanos_of t),
)
  where
    one_pair : nanos_of s ≡ nanos_of t → s ≡ t
    one_pair same =
        let secs : s.0 ≡ t.0 = omega arith in
        let nanos : s.1 ≡ t.1 = omega arith in
        λ i. (secs i, nanos i)
