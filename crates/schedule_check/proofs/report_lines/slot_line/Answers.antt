-- Answers to the goals of `report_lines::slot_line`.
use Rattle.schedule_check.proofs.Reporting.{slot_pushed}
use Rattle.schedule_check.proofs.report_lines.slot_line.Goals as goal

pub returns : goal.returns
returns c = slot_pushed c.args.slot _ _ _ _ c.new-out.ensures c.push_count.ensures.bytes c.push_count-2.ensures.bytes
    c.push_count-3.ensures.bytes
