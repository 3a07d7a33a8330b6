-- What a tally of counts knows: cited by private contracts alone.
use Rattle.std.specs.Prelude.{◌≡◌, ℕ, Bool, true, false, IsTrue, List, Some, Result, Ok, Err}
use Rattle.std.specs.List.{list_all}
use Rattle.scan_core.specs.Count.{Count}
use Rattle.scan_core.specs.Shares.{share, fits_type}
use Rattle.scan_core.specs.Sums.{total, fits, misfit}
use Rattle.scan_core.specs.declared.share.Part.{Part}
use Rattle.scan_core.specs.declared.share.Part.TheVariants.{Months, Days, Micros}
use Rattle.pg_interval_2.specs.declared.interval.Interval.{Interval}
use Rattle.pg_interval_2.specs.declared.error.ParseError.{ParseError}
use Rattle.pg_interval_2.specs.declared.error.ParseError.TheVariants.{InvalidInterval, BadUnit, InvalidYearMonth, InvalidDay, InvalidTime}
use Rattle.pg_interval_2.specs.declared.reading.tally.Tally.{Tally}
use Rattle.pg_interval_2.specs.Messages.{year_month_overflow, day_overflow, time_overflow}

-- the sums of the shares of all counts
abbrev pub sum_of : List Count → Interval
sum_of counts = record {
  months = total Months counts;
  days = total Days counts;
  microseconds = total Micros counts;
}

-- one part of each share is in the part's type
abbrev pub each_fits : Part → List Count → Bool
each_fits part counts = list_all (λ c. fits_type part (share part c)) counts

-- the tally is of these counts: a later part is right as far as the earlier ones fit
pub record Tallies (tally : Tally) (counts : List Count) : Type 0 where
  pub months : tally.months_fit ≡ each_fits Months counts
  pub days : each_fits Months counts ≡ true → tally.days_fit ≡ each_fits Days counts
  pub micros : each_fits Months counts ≡ true → each_fits Days counts ≡ true
      → tally.micros_fit ≡ each_fits Micros counts
  pub month_sum : each_fits Months counts ≡ true → tally.totals.months ≡ total Months counts
  pub day_sum : each_fits Months counts ≡ true → each_fits Days counts ≡ true
      → tally.totals.days ≡ total Days counts
  pub micro_sum : each_fits Months counts ≡ true → each_fits Days counts ≡ true
      → each_fits Micros counts ≡ true → tally.totals.micros ≡ total Micros counts

-- the tally with a mark that a share left this part
abbrev pub marked : Part → Tally → Tally
marked Months t = record t { months_fit = false }
marked Days t = record t { days_fit = false }
marked Micros t = record t { micros_fit = false }

-- the answer to counts: their sum where they fit, else the refusal of the first part that doesn't
abbrev pub AnswersCounts : List Count → Result Interval ParseError → Type 0
AnswersCounts counts (Ok t) = IsTrue (fits counts) × (t ≡ sum_of counts)
AnswersCounts counts (Err (InvalidInterval m)) = ⊥
AnswersCounts counts (Err (BadUnit start end)) = ⊥
AnswersCounts counts (Err (InvalidYearMonth m)) =
    (misfit counts ≡ Some Months) × (m.now ≡ year_month_overflow)
AnswersCounts counts (Err (InvalidDay m)) = (misfit counts ≡ Some Days) × (m.now ≡ day_overflow)
AnswersCounts counts (Err (InvalidTime m)) = (misfit counts ≡ Some Micros) × (m.now ≡ time_overflow)

-- the tally is of the counts that the text spells
abbrev pub IsTallyOf : (List ℕ → List Count → Type 0) → List ℕ → Tally → Type 0
IsTallyOf Shape text tally = (counts : List Count) × Shape text counts × Tallies tally counts
