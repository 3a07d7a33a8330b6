-- Answers to the goals of `reading::distinct_tally::DistinctTally::count`.
use Rattle.std.proofs.Common.{sym, ◌∙◌}
use Rattle.pg_interval_2.specs.inside.Reading.{count_with, numeral_in}
use Rattle.pg_interval_2.proofs.DistinctFacts.{counted_push}
use Rattle.pg_interval_2.proofs.reading.distinct_tally.DistinctTally.count.Goals as goal

pub returns-clause-counted : goal.returns-clause-counted
returns-clause-counted g c =
    λ counts h.
    let one = count_with (numeral_in c.args.text.now c.args.number) c.args.unit in
    let fresh = sym (h.units c.args.unit) ∙ sym c.if-contains.ensures in (
      fresh,
      counted_push counts one c.args.self.now _ h fresh (c.add.ensures.tallied counts h.tallied) c.insert.ensures.same
          c.insert.ensures.others,
    )
