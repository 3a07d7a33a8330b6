-- The sums of the shares of counts, and what fits: each share and each final sum by itself, and no sum over some of the counts.
use Rattle.std.specs.Prelude.{ℕ, Bool, ◌&&◌, List, [], ◌∷◌, ℤ, pos, ◌+ℤ◌, Option, Some, None, if◌then◌else◌}
use Rattle.std.specs.List.{list_all}
use Rattle.scan_core.specs.Count.{Count}
use Rattle.scan_core.specs.Shares.{share, fits_type}
use Rattle.scan_core.specs.declared.share.Part.{Part}
use Rattle.scan_core.specs.declared.share.Part.TheVariants.{Months, Days, Micros}

-- the sum of one part over all counts
abbrev pub total : Part → List Count → ℤ
total part [] = pos 0
total part (c ∷ cs) = share part c +ℤ total part cs

-- one part of each share, and of the sum, is in the part's type
abbrev pub part_fits : Part → List Count → Bool
part_fits part counts =
    list_all (λ c. fits_type part (share part c)) counts && fits_type part (total part counts)

-- all three parts fit
abbrev pub fits : List Count → Bool
fits counts = part_fits Months counts && (part_fits Days counts && part_fits Micros counts)

-- the first part, of months, days and microseconds, whose test is false
abbrev pub first_false : Bool → Bool → Bool → Option Part
first_false months days micros =
    if months then (if days then (if micros then None else Some Micros) else Some Days)
    else Some Months

-- the first part that doesn't fit
abbrev pub misfit : List Count → Option Part
misfit counts =
    first_false (part_fits Months counts) (part_fits Days counts) (part_fits Micros counts)

-- what sums over shares show: the three sums, and how many shares were added
pub record Added : Type 0 where
  pub months : ℤ
  pub days : ℤ
  pub micros : ℤ
  pub adds : ℕ

-- the first sum that leaves its type
abbrev pub first_sum_out : Added → Option Part
first_sum_out sums =
    first_false (fits_type Months sums.months) (fits_type Days sums.days)
    (fits_type Micros sums.micros)
