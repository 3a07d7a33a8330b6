-- Answers to the goals of `reading::tally::Tally::add_whole`.
use Rattle.scan_core.proofs.Between.{between_none}
use Rattle.pg_interval_2.proofs.reading.tally.Tally.add_whole.Goals as goal

pub returns-clause-tallied : goal.returns-clause-tallied
returns-clause-tallied g c =
    let none = between_none c.args.text.now c.args.whole.end in λ counts tallied. rw none at c.add.ensures.tallied counts tallied
