-- Answers to the goals of `entry::entry`.
use Rattle.interval_column.proofs.Labels.{if_none_map, not_styled}
use Rattle.interval_column.proofs.entry.entry.Goals as goal

pub returns-in-Ok-clause-none : goal.returns-in-Ok-clause-none
returns-in-Ok-clause-none c = if_none_map c.styled.result _ _ (not_styled c.args.line.now c.in-Ok.text.now c.in-Ok.ensures.cases.0)
    c.styled.ensures.none
