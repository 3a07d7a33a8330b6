-- Answers to the goals of `reading::read_ranks`.
use Rattle.std.proofs.Common.{Err, ap}
use Rattle.forms.specs.Lines.{lines}
use Rattle.interval_column.proofs.Ranks.{column_of, fault_alone}
use Rattle.interval_column.proofs.reading.read_ranks.Goals as goal

pub returns-in-Ok-clause-ok : goal.returns-in-Ok-clause-ok
returns-in-Ok-clause-ok c = column_of c.args.bytes.now c.in-Ok.ranks.items c.sort_ranks.new.ranks.items c.in-Ok.ensures.ok
    c.sort_ranks.ensures

pub returns-in-Err-Refused-clause-err : goal.returns-in-Err-Refused-clause-err
returns-in-Err-Refused-clause-err c = fault_alone (lines c.args.bytes.now) c.in-Err-Refused.line c.in-Err-Refused.fault
    (c.in-Err-Refused.ensures.refused c.in-Err-Refused.line c.in-Err-Refused.fault (ap Err c.in-Err-Refused.field-0-is))
