-- Sums over counts: joined lists, one count more, what fits, and what doesn't first.
use Rattle.std.proofs.Common.{◌≡◌, Bool, true, false, ◌&&◌, List, [], ◌∷◌, ◌++◌, None, arith, refl}
use Rattle.std.proofs.lemmas.Int.{ints}
use Rattle.std.specs.Prelude.{◌+ℤ◌, ◌↔◌}
use Rattle.scan_core.specs.Count.{Count}
use Rattle.scan_core.specs.Shares.{share}
use Rattle.scan_core.specs.Sums.{first_false, fits, misfit, part_fits, total}
use Rattle.scan_core.specs.declared.share.Part.{Part}
use Rattle.scan_core.specs.declared.share.Part.TheVariants.{Days, Micros, Months}

-- ---- the sum

pub total-append : (part : Part) (xs ys : List Count) → total part (xs ++ ys) ≡ total part xs +ℤ total part ys
total-append part [] ys = omega (arith, ints)
total-append part (x ∷ xs) ys = omega (arith, ints, total-append part xs ys)

pub total_push : (part : Part) (counts : List Count) (c : Count) → total part (counts ++ c ∷ []) ≡ total part counts +ℤ share part c
total_push part counts c = omega (arith, ints, total-append part counts (c ∷ []))

-- ---- the first part that doesn't fit

pub first_false-none : (months days micros : Bool) → (first_false months days micros ≡ None) ↔ ((months && (days && micros)) ≡ true)
first_false-none true true true = (λ e. refl, λ e. refl)
first_false-none true true false = (λ e. cc, λ e. cc)
first_false-none true false micros = (λ e. cc, λ e. cc)
first_false-none false days micros = (λ e. cc, λ e. cc)

pub misfit-none : (counts : List Count) → (misfit counts ≡ None) ↔ (fits counts ≡ true)
misfit-none counts = first_false-none (part_fits Months counts) (part_fits Days counts) (part_fits Micros counts)
