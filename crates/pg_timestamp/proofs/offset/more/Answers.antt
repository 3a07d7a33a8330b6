-- Answers to the goals of `offset::more`.
use Rattle.std.proofs.Common.{◌∙◌, sym}
use Rattle.pg_timestamp.proofs.OffsetFacts.{none_more}
use Rattle.pg_timestamp.proofs.offset.more.Goals as goal

pub returns-then-begins_with-clause-none : goal.returns-then-begins_with-clause-none
returns-then-begins_with-clause-none c = none_more c.pair.result c.args.text.now
    (sym c.begins_with.ensures ∙ c.if-begins_with.true) c.pair.ensures.none
