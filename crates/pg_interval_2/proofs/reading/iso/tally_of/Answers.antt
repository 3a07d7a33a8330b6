-- Answers to the goals of `reading::iso::tally_of`.
use Rattle.pg_interval_2.proofs.IsoStrictFacts.{has_none, is_none, is_tally}
use Rattle.pg_interval_2.proofs.reading.iso.tally_of.Goals as goal

pub returns-then-suits-clause-some : goal.returns-then-suits-clause-some
returns-then-suits-clause-some g c = is_tally c.args.strict c.args.text.now c.in-Some.spelled c.if-suits.ensures c.in-Some.ensures.some

pub returns-else-suits-clause-none : goal.returns-else-suits-clause-none
returns-else-suits-clause-none g c = is_none c.args.strict c.args.text.now c.in-Some.spelled c.if-suits.ensures c.in-Some.ensures.some

pub returns-in-None-clause-none : goal.returns-in-None-clause-none
returns-in-None-clause-none g c = has_none c.args.strict c.args.text.now c.in-None.ensures.none
