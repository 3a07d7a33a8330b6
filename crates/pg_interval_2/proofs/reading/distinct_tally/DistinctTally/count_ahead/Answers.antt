-- Answers to the goals of `reading::distinct_tally::DistinctTally::count_ahead`.
use Rattle.scan_core.specs.Scanning.{ahead}
use Rattle.pg_interval_2.specs.inside.NameSets.{names_in}
use Rattle.pg_interval_2.specs.Turned.{turned_counts}
use Rattle.pg_interval_2.proofs.DistinctFacts.{turned_has}
use Rattle.pg_interval_2.proofs.Turning.{turned_fields}
use Rattle.pg_interval_2.proofs.TurnedClocks.{clock_counted}
use Rattle.pg_interval_2.proofs.reading.distinct_tally.DistinctTally.count_ahead.Goals as goal

pub returns-in-Some-clause-step : goal.returns-in-Some-clause-step
returns-in-Some-clause-step g c =
    λ names counts h.
    let read = c.in-Some.ensures.read in
    let has = turned_has c.args.turned c.clock_behind.new.scan.text c.text.result.now c.in-Some.clock read.0 c.turn-negative.result
    c.text.ensures c.turn-negative.ensures read.2 in
    clock_counted (names_in names) c.args.turned c.clock_behind.new.scan.text
    (ahead c.clock_behind.new.scan) _ read.0 counts c.count_clock.new.self c.count_clock.result read.1
    (c.count_clock.ensures.counted (turned_fields c.args.turned read.0) has (turned_counts c.args.turned counts) h)
