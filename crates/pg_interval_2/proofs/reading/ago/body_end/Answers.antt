-- Answers to the goals of `reading::ago::body_end`.
use Rattle.std.proofs.Common.{ℕ, refl, subst}
use Rattle.pg_interval_2.specs.inside.VerboseReading.{AreBlanksBetween}
use Rattle.pg_interval_2.proofs.TextEnds.{ends_without}
use Rattle.pg_interval_2.proofs.reading.ago.body_end.Goals as goal

pub returns-else-ends_in_ago-clause-ending : goal.returns-else-ends_in_ago-clause-ending
returns-else-ends_in_ago-clause-ending g c =
    let text = c.args.text.now in
    let last = c.behind_last-last.result in
    let blanks = subst (λ (end : ℕ). AreBlanksBetween text last end) c.len.ensures.length c.behind_last-last.ensures.blanks in
    ends_without text last blanks c.behind_last-last.ensures.solid (c.if-ends_in_ago.ensures.no refl)
