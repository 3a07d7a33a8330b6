-- Answers to the goals of `report_lines::fault_line`.
use Rattle.schedule_check.proofs.Reporting.{fault_pushed}
use Rattle.schedule_check.proofs.report_lines.fault_line.Goals as goal

pub returns : goal.returns
returns c = fault_pushed c.args.line c.args.fault _ _ _ _ _ c.new-out.ensures c.push_text.ensures.bytes c.push_count.ensures.bytes
    c.push_fault.ensures.bytes c.push_text-2.ensures.bytes
