-- What a text denotes is in the types' range, whatever the style.
use Rattle.std.proofs.Common.{ℕ, IsTrue, List, subst, sym}
use Rattle.std.proofs.lemmas.Bool.{and_parts}
use Rattle.scan_core.specs.Count.{Count}
use Rattle.scan_core.specs.Sums.{fits, part_fits, total}
use Rattle.scan_core.specs.declared.share.Part.TheVariants.{Months, Days, Micros}
use Rattle.scan_core.proofs.FitFacts.{within_32, within_64}
use Rattle.pg_interval_2.specs.declared.interval.Interval.{Interval}
use Rattle.pg_interval_2.specs.Denotes.{Denotes}
use Rattle.pg_interval_2.specs.inside.Tallies.{sum_of}
use Rattle.pg_interval_2.specs.Ranges.{IsInRange}

sum_in_range : (counts : List Count) → IsTrue (fits counts) → IsInRange (sum_of counts)
sum_in_range counts fit =
    let months = and_parts (part_fits Months counts) _ fit in
    let others = and_parts (part_fits Days counts) (part_fits Micros counts) months.1 in
    record {
      months = within_32 (total Months counts) (and_parts _ _ months.0).1;
      days = within_32 (total Days counts) (and_parts _ _ others.0).1;
      microseconds = within_64 (total Micros counts) (and_parts _ _ others.1).1;
    }

pub denoted_in_range : (Shape : List ℕ → List Count → Type 0) (text : List ℕ) (t : Interval) → Denotes Shape text t → IsInRange t
denoted_in_range Shape text t denotes = subst IsInRange (sym denotes.3) (sum_in_range denotes.0 denotes.2)
