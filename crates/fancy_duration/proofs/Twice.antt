-- To filter or to truncate a length again changes nothing.
use Rattle.std.proofs.Common.{◌≡◌, ◌≢◌, ℕ, ◌+◌, ◌-◌, ◌*◌, ◌/◌, ◌%◌, ◌<◌, ◌≤◌, Bool, true, false, List, [], ◌∷◌, take, zero, suc, refl, sym}
use Rattle.std.proofs.Common.{◌∙◌, ap, ⊎_elim, arith, zero-add, if◌then◌else◌}
use Rattle.std.proofs.lemmas.Nat.{div-add-mod', div-mul-add, mod-mul-add, le-div}
use Rattle.std.proofs.Math.Nat.{mod-lt, mod-eq_of_lt, div-eq_of_lt, mul-le-mul_right}
use Rattle.std.proofs.lemmas.Bool.{cases_lt, ne_eqb}
use Rattle.std.specs.List.{list_any}
use Rattle.fancy_duration.specs.declared.part.DurationPart.{DurationPart}
use Rattle.fancy_duration.specs.declared.part.DurationPart.TheVariants.{Years, Months, Weeks, Days, Hours, Minutes, Seconds, Milliseconds}
use Rattle.fancy_duration.specs.declared.part.DurationPart.TheVariants.{Microseconds, Nanoseconds}
use Rattle.fancy_duration.specs.Parts.{all_parts, weight_of, is_part}
use Rattle.fancy_duration.specs.Times.{nanos_of, times_of}
use Rattle.fancy_duration.specs.Breakdown.{counts_of, breakdown, nanos_in, from_first, kept_length, front_length}
use Rattle.fancy_duration.specs.inside.Writing.{kept_in}
use Rattle.fancy_duration.proofs.Breakdowns.{filtered_all, kept_in-cons, kept_in-none}

pub weight_some : (part : DurationPart) → 0 < weight_of part
weight_some Years = omega arith
weight_some Months = omega arith
weight_some Weeks = omega arith
weight_some Days = omega arith
weight_some Hours = omega arith
weight_some Minutes = omega arith
weight_some Seconds = omega arith
weight_some Milliseconds = omega arith
weight_some Microseconds = omega arith
weight_some Nanoseconds = omega arith

-- a whole multiple of a weight, and less than one more
whole_mod : (n r w : ℕ) → 0 < w → r ≤ n % w → (n - n % w + r) % w ≡ r
whole_mod n r w some below =
    let small : r < w = omega (arith, mod-lt n some) in
    let whole : n - n % w + r ≡ n / w * w + r = omega (arith, div-add-mod' n w) in
    rw whole (mod-mul-add (n / w) w r small)

quotient_whole : (n w : ℕ) → 0 < w → w ≤ n → w ≤ n / w * w
quotient_whole n w some high =
    let q : 1 ≤ n / w = le-div 1 n w some (omega arith) in
    omega (arith, mul-le-mul_right w q)

quotient_some : (n w : ℕ) → 0 < w → w ≤ n → n / w ≢ 0
quotient_some n w some high e = absurd (omega (arith, le-div 1 n w some (omega arith)))

at_most : (b : Bool) (n : ℕ) → (if b then n else 0) ≤ n
at_most true n = omega arith
at_most false n = omega arith

kept_within : (kept parts : List DurationPart) (n : ℕ) → kept_in kept parts n ≤ n
kept_within kept [] n = omega (arith, kept_in-none kept n)
kept_within kept (part ∷ parts) n =
    let w = weight_of part in
    omega (
      arith,
      kept_in-cons kept part parts n,
      at_most (list_any (λ p. is_part p part) kept) (n - n % w),
      kept_within kept parts (n % w),
      div-add-mod' n w,
    )

kept_twice : (kept parts : List DurationPart) (n : ℕ)
    → kept_in kept parts (kept_in kept parts n) ≡ kept_in kept parts n
kept_twice kept [] n = kept_in-none kept (kept_in kept [] n) ∙ sym (kept_in-none kept n)
kept_twice kept (part ∷ parts) n =
    elim (list_any (λ p. is_part p part) kept) as (λ t. list_any (λ p. is_part p part) kept ≡ t
    → kept_in kept (part ∷ parts) (kept_in kept (part ∷ parts) n) ≡ kept_in kept (part ∷ parts) n) [
      | true ↦ λ e.
          let once : kept_in kept (part ∷ parts) n ≡ n - n % w + r = rw e at (kept_in-cons kept part parts n) in
          let rest : (n - n % w + r) % w ≡ r = whole_mod n r w (weight_some part) low in
          let again : kept_in kept (part ∷ parts) (n - n % w + r) ≡ (n - n % w + r - (n - n % w + r) % w)
          + kept_in kept parts ((n - n % w + r) % w) = rw e at (kept_in-cons kept part parts (n - n % w + r)) in
          let same : kept_in kept parts ((n - n % w + r) % w) ≡ r = ap (kept_in kept parts) rest ∙ kept_twice kept parts (n % w) in
          ap (kept_in kept (part ∷ parts)) once ∙ (omega (arith, again, same, rest, once))
      | false ↦ λ e.
          let once : kept_in kept (part ∷ parts) n ≡ 0 + r = rw e at (kept_in-cons kept part parts n) in
          let small : r < w = omega (arith, low, mod-lt n (weight_some part)) in
          let again : kept_in kept (part ∷ parts) r ≡ 0 + kept_in kept parts (r % w) = rw e at (kept_in-cons kept part parts r) in
          let same : kept_in kept parts (r % w) ≡ r = ap (kept_in kept parts) (mod-eq_of_lt small) ∙ kept_twice kept parts (n % w) in
          ap (kept_in kept (part ∷ parts)) (once ∙ zero-add r) ∙ (omega (arith, again, same, once))
    ] refl
  where
    w : ℕ
    w = weight_of part

    r : ℕ
    r = kept_in kept parts (n % weight_of part)

    low : kept_in kept parts (n % weight_of part) ≤ n % weight_of part
    low = kept_within kept parts (n % weight_of part)

-- the first counts again
first_within : (limit : ℕ) (parts : List DurationPart) (n : ℕ) → nanos_in (take limit (counts_of parts n)) ≤ n
first_within zero parts n = omega arith
first_within (suc limit) [] n = omega arith
first_within (suc limit) (part ∷ parts) n = omega (arith, first_within limit parts (n % weight_of part), div-add-mod' n (weight_of part))

first_twice : (limit : ℕ) (parts : List DurationPart) (n : ℕ)
    → nanos_in (take limit (counts_of parts (nanos_in (take limit (counts_of parts n))))) ≡ nanos_in (take limit (counts_of parts n))
first_twice zero parts n = refl
first_twice (suc limit) [] n = refl
first_twice (suc limit) (part ∷ parts) n =
    let w = weight_of part in
    let r = nanos_in (take limit (counts_of parts (n % w))) in
    let small : r < w = omega (arith, first_within limit parts (n % w), mod-lt n (weight_some part)) in
    rw (div-mul-add (n / w) w r small, mod-mul-add (n / w) w r small) (ap (λ m. n / w * w + m) (first_twice limit parts (n % w)))

-- the nanoseconds of the first counts, and those from the first one above 0 on
abbrev first_in : ℕ → List DurationPart → ℕ → ℕ
first_in limit parts n = nanos_in (take limit (counts_of parts n))

abbrev leading_in : ℕ → List DurationPart → ℕ → ℕ
leading_in limit parts n = nanos_in (take limit (from_first (counts_of parts n)))

leading-low : (limit : ℕ) (part : DurationPart) (parts : List DurationPart) (n : ℕ)
    → n < weight_of part → leading_in limit (part ∷ parts) n ≡ leading_in limit parts n
leading-low limit part parts n low = simp (div-eq_of_lt low, mod-eq_of_lt low)

leading-high : (limit : ℕ) (part : DurationPart) (parts : List DurationPart) (n : ℕ)
    → weight_of part ≤ n → leading_in limit (part ∷ parts) n ≡ first_in limit (part ∷ parts) n
leading-high limit part parts n high = simp (ne_eqb (n / weight_of part) 0 (quotient_some n (weight_of part) (weight_some part) high))

leading_within : (limit : ℕ) (parts : List DurationPart) (n : ℕ) → leading_in limit parts n ≤ n
leading_within zero [] n = omega arith
leading_within (suc limit) [] n = omega arith
leading_within limit (part ∷ parts) n =
    ⊎_elim
    (λ (low : n < weight_of part). omega (arith, leading-low limit part parts n low, leading_within limit parts n))
    (λ (high : weight_of part ≤ n). omega (arith, leading-high limit part parts n high, first_within limit (part ∷ parts) n))
    (cases_lt n (weight_of part))

-- the first count above 0 stays above 0
leading_again : (limit : ℕ) (part : DurationPart) (parts : List DurationPart) (n : ℕ)
    → weight_of part ≤ n
    → leading_in limit (part ∷ parts) (first_in limit (part ∷ parts) n) ≡ first_in limit (part ∷ parts) n
leading_again zero part parts n high = refl
leading_again (suc limit) part parts n high =
    let still : weight_of part ≤ first_in (suc limit) (part ∷ parts) n = omega
    (arith, quotient_whole n (weight_of part) (weight_some part) high) in
    leading-high (suc limit) part parts (first_in (suc limit) (part ∷ parts) n) still ∙ first_twice (suc limit) (part ∷ parts) n

leading_twice : (limit : ℕ) (parts : List DurationPart) (n : ℕ)
    → leading_in limit parts (leading_in limit parts n) ≡ leading_in limit parts n
leading_twice zero [] n = refl
leading_twice (suc limit) [] n = refl
leading_twice limit (part ∷ parts) n =
    ⊎_elim
    (λ (low : n < weight_of part).
    let once = leading-low limit part parts n low in
    let below : leading_in limit parts n < weight_of part = omega (arith, leading_within limit parts n) in
    ap (leading_in limit (part ∷ parts)) once ∙ leading-low limit part parts (leading_in limit parts n) below ∙ leading_twice limit parts n
    ∙ sym once)
    (λ (high : weight_of part ≤ n).
    let once = leading-high limit part parts n high in
    ap (leading_in limit (part ∷ parts)) once ∙ leading_again limit part parts n high ∙ sym once)
    (cases_lt n (weight_of part))

times_back : (n : ℕ) → nanos_of (times_of n) ≡ n
times_back n = omega arith

pub filter_twice : (kept : List DurationPart) (n : ℕ)
    → times_of (kept_length kept (nanos_of (times_of (kept_length kept n)))) ≡ times_of (kept_length kept n)
filter_twice kept n =
    ap (λ m. times_of (kept_length kept m)) (times_back (kept_length kept n))
    ∙ ap times_of (sym (filtered_all kept (kept_length kept n)) ∙ ap (kept_in kept all_parts) (sym (filtered_all kept n))
    ∙ kept_twice kept all_parts n ∙ filtered_all kept n)

pub truncate_twice : (limit n : ℕ)
    → times_of (front_length limit (nanos_of (times_of (front_length limit n)))) ≡ times_of (front_length limit n)
unfolding front_length breakdown
truncate_twice limit n = ap (λ m. times_of (front_length limit m)) (times_back (front_length limit n))
    ∙ ap times_of (leading_twice limit all_parts n)
