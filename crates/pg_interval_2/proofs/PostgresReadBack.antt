-- A text written in `postgres` style is read back as its interval, and as no other.
use Rattle.std.proofs.Common.{◌≡◌, pos, refl, int_eq}
use Rattle.std.proofs.lemmas.Bool.{cond_both}
use Rattle.scan_core.specs.declared.share.Part.TheVariants.{Months, Days, Micros}
use Rattle.pg_interval_2.specs.declared.interval.Interval.{Interval}
use Rattle.pg_interval_2.specs.Denotes.{Denotes}
use Rattle.pg_interval_2.specs.inside.PostgresParts.{IsPostgres}
use Rattle.pg_interval_2.specs.inside.PostgresSteps.{postgres_steps}
use Rattle.pg_interval_2.specs.Ranges.{IsInRange}
use Rattle.scan_core.proofs.Signs.{int_eq-zero, abs_fits}
use Rattle.pg_interval_2.proofs.WrittenCounts.{date_counts-sum}
use Rattle.pg_interval_2.proofs.ClockCounts.{kept_counts-sum}
use Rattle.pg_interval_2.proofs.PostgresCounts.{one_list}
use Rattle.pg_interval_2.proofs.PostgresSpelled.{postgres_counts, clock_part, postgres_spelled}
use Rattle.scan_core.proofs.FitFacts.{fits_32, fits_64}
use Rattle.pg_interval_2.proofs.SumsTo.{SumsTo, SumsTo-nil, SumsTo-date_time, time_of, Denotes-SumsTo, alone-SumsTo}

clock_part-sum : (t : Interval) → IsInRange t → SumsTo (clock_part t.microseconds) (time_of t)
clock_part-sum t range =
    cond_both (int_eq t.microseconds (pos 0)) _ _ (λ counts. SumsTo counts (time_of t))
    (λ zero_is. SumsTo-nil (time_of t) refl refl (int_eq-zero t.microseconds zero_is)) (λ _. kept_counts-sum 2 t range)

sums : (t : Interval) → IsInRange t → SumsTo (postgres_counts t.months t.days t.microseconds) t
sums t range = SumsTo-date_time _ _ t (date_counts-sum t range) (clock_part-sum t range)

spelled : (t : Interval) → IsInRange t
    → IsPostgres (postgres_steps t.months t.days t.microseconds) (postgres_counts t.months t.days t.microseconds)
spelled t range = postgres_spelled t.months t.days t.microseconds (abs_fits Months t.months (fits_32 t.months range.months))
    (abs_fits Days t.days (fits_32 t.days range.days)) (abs_fits Micros t.microseconds (fits_64 t.microseconds range.microseconds))

pub postgres_denotes : (t : Interval) → IsInRange t → Denotes IsPostgres (postgres_steps t.months t.days t.microseconds) t
postgres_denotes t range = Denotes-SumsTo IsPostgres (postgres_steps t.months t.days t.microseconds)
    (postgres_counts t.months t.days t.microseconds) t range (spelled t range) (sums t range)

pub postgres_alone : (t u : Interval) → IsInRange t → Denotes IsPostgres (postgres_steps t.months t.days t.microseconds) u → u ≡ t
postgres_alone t u range =
    alone-SumsTo IsPostgres (postgres_steps t.months t.days t.microseconds) (postgres_counts t.months t.days t.microseconds) t u
    (λ others is. one_list (postgres_steps t.months t.days t.microseconds) others _ is (spelled t range)) (sums t range)
