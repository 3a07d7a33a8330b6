-- Counts whose sum is an interval: a text that spells them denotes it.
use Rattle.std.proofs.Common.{◌≡◌, ℕ, List, [], ◌++◌, IsTrue, pos, ◌+ℤ◌, refl, ◌∙◌, sym, arith}
use Rattle.std.proofs.lemmas.Int.{ints}
use Rattle.std.proofs.lemmas.Bool.{and_from}
use Rattle.scan_core.specs.Count.{Count}
use Rattle.scan_core.specs.Sums.{fits}
use Rattle.scan_core.specs.declared.share.Part.TheVariants.{Months, Days, Micros}
use Rattle.pg_interval_2.specs.declared.interval.Interval.{Interval}
use Rattle.pg_interval_2.specs.Denotes.{Denotes}
use Rattle.pg_interval_2.specs.inside.Tallies.{sum_of}
use Rattle.pg_interval_2.specs.Ranges.{IsInRange}
use Rattle.scan_core.proofs.FitFacts.{fits_32, fits_64}
use Rattle.pg_interval_2.proofs.AddsUp.{AddsUp, AddsUp-nil, AddsUp-append, AddsUp-same, part_fits-AddsUp}

-- each part of the counts adds up to that of the interval
pub record SumsTo (counts : List Count) (t : Interval) : Type 0 where
  pub months : AddsUp Months counts t.months
  pub days : AddsUp Days counts t.days
  pub micros : AddsUp Micros counts t.microseconds

-- the months of an interval, its days, its months and days, and its time
abbrev pub months_alone : Interval → Interval
months_alone t = record { months = t.months; days = pos 0; microseconds = pos 0 }

abbrev pub days_alone : Interval → Interval
days_alone t = record { months = pos 0; days = t.days; microseconds = pos 0 }

abbrev pub date_of : Interval → Interval
date_of t = record { months = t.months; days = t.days; microseconds = pos 0 }

abbrev pub time_of : Interval → Interval
time_of t = record { months = pos 0; days = pos 0; microseconds = t.microseconds }

pub SumsTo-nil : (t : Interval) → t.months ≡ pos 0 → t.days ≡ pos 0 → t.microseconds ≡ pos 0 → SumsTo [] t
SumsTo-nil t months days micros = record {
  months = AddsUp-same Months [] (pos 0) _ (AddsUp-nil Months) (sym months);
  days = AddsUp-same Days [] (pos 0) _ (AddsUp-nil Days) (sym days);
  micros = AddsUp-same Micros [] (pos 0) _ (AddsUp-nil Micros) (sym micros);
}

pub SumsTo-append : (xs ys : List Count) (t u v : Interval) → SumsTo xs t → SumsTo ys u → t.months +ℤ u.months ≡ v.months
    → t.days +ℤ u.days ≡ v.days → t.microseconds +ℤ u.microseconds ≡ v.microseconds
    → SumsTo (xs ++ ys) v
SumsTo-append xs ys t u v first second months days micros = record {
  months = AddsUp-same Months _ _ _ (AddsUp-append Months xs ys _ _ first.months second.months) months;
  days = AddsUp-same Days _ _ _ (AddsUp-append Days xs ys _ _ first.days second.days) days;
  micros = AddsUp-same Micros _ _ _ (AddsUp-append Micros xs ys _ _ first.micros second.micros) micros;
}

pub SumsTo-date_time : (dates times : List Count) (t : Interval) → SumsTo dates (date_of t) → SumsTo times (time_of t)
    → SumsTo (dates ++ times) t
SumsTo-date_time dates times t date time = SumsTo-append dates times (date_of t) (time_of t) t date time (omega (arith, ints))
    (omega (arith, ints)) (omega (arith, ints))

pub sum_of-SumsTo : (counts : List Count) (t : Interval) → SumsTo counts t → t ≡ sum_of counts
sum_of-SumsTo counts t sums = rw (sums.months.total_is, sums.days.total_is, sums.micros.total_is) refl

fits-SumsTo : (counts : List Count) (t : Interval) → IsInRange t → SumsTo counts t → IsTrue (fits counts)
fits-SumsTo counts t range sums =
    and_from _ _ (part_fits-AddsUp Months counts t.months sums.months (fits_32 t.months range.months))
    (and_from _ _ (part_fits-AddsUp Days counts t.days sums.days (fits_32 t.days range.days))
    (part_fits-AddsUp Micros counts t.microseconds sums.micros (fits_64 t.microseconds range.microseconds)))

pub Denotes-SumsTo : (Shape : List ℕ → List Count → Type 0) (text : List ℕ) (counts : List Count) (t : Interval) → IsInRange t
    → Shape text counts → SumsTo counts t
    → Denotes Shape text t
Denotes-SumsTo Shape text counts t range spelled sums = (counts, spelled, fits-SumsTo counts t range sums, sum_of-SumsTo counts t sums)

-- where the text spells no other counts, it denotes no other interval
pub alone-SumsTo : (Shape : List ℕ → List Count → Type 0) (text : List ℕ) (counts : List Count) (t u : Interval)
    → ((others : List Count) → Shape text others → others ≡ counts) → SumsTo counts t → Denotes Shape text u
    → u ≡ t
alone-SumsTo Shape text counts t u one sums denotes =
    let same : denotes.0 ≡ counts = one denotes.0 denotes.1 in
    denotes.3 ∙ rw same (sym (sum_of-SumsTo counts t sums))
