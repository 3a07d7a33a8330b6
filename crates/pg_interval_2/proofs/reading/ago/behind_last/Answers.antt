-- Answers to the goals of `reading::ago::behind_last`.
use Rattle.std.proofs.Common.{sym}
use Rattle.pg_interval_2.proofs.TextEnds.{solid_byte}
use Rattle.pg_interval_2.proofs.reading.ago.behind_last.Goals as goal

pub returns-then-not-is_blank-clause-solid : goal.returns-then-not-is_blank-clause-solid
returns-then-not-is_blank-clause-solid g c = solid_byte c.args.text.now c.loop-byte.last c.in-Some.byte
    (sym c.if-not-is_blank.ensures) c.in-Some.ensures.some
