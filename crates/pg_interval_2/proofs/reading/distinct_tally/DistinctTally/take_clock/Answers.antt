-- Answers to the goals of `reading::distinct_tally::DistinctTally::take_clock`.
use Rattle.std.proofs.Common.{subst}
use Rattle.scan_core.specs.Runs.{digits_of}
use Rattle.scan_core.specs.Scanning.{Place, ahead}
use Rattle.pg_interval_2.specs.inside.DistinctItems.{IsItemStep, clock_step}
use Rattle.pg_interval_2.specs.inside.ItemReading.{read_clock}
use Rattle.pg_interval_2.specs.inside.NameSets.{names_in}
use Rattle.pg_interval_2.proofs.reading.distinct_tally.DistinctTally.take_clock.Goals as goal

pub returns-clause-step : goal.returns-clause-step
returns-clause-step g c =
    λ names counts h.
    let taken = c.count_ahead-taken in
    subst (λ (p : Place). IsItemStep (names_in names) c.args.turned taken.new.scan.text
    (read_clock c.args.negative (digits_of p.text c.args.hours) (ahead p)) (ahead taken.new.scan) counts taken.new.self
    (clock_step taken.result)) c.here-here.ensures
    (taken.ensures.step names counts h)
