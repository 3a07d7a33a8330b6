-- Answers to the goals of `report_lines::clash_line`.
use Rattle.schedule_check.proofs.Reporting.{clash_pushed}
use Rattle.schedule_check.proofs.report_lines.clash_line.Goals as goal

pub returns : goal.returns
returns c = clash_pushed c.args.first c.args.second _ _ _ _ c.new-out.ensures c.push_text.ensures.bytes c.push_count.ensures.bytes
    c.push_count-2.ensures.bytes
