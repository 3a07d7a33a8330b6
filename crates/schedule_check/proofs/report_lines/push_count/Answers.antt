-- Answers to the goals of `report_lines::push_count`.
use Rattle.std.proofs.Common.{arith}
use Rattle.std.proofs.lemmas.Fmt.{length-decimal-le}
use Rattle.schedule_check.proofs.report_lines.push_count.Goals as goal

pub push_num-requires : goal.push_num-requires
push_num-requires c =
    let short = length-decimal-le 20 c.args.count (omega arith) (omega arith) c.ranges.count.fits in
    omega arith

pub push_text-requires : goal.push_text-requires
push_text-requires c =
    let short = length-decimal-le 20 c.args.count (omega arith) (omega arith) c.ranges.count.fits in
    let digits = c.push_num.ensures.len in
    omega arith

pub returns-clause-len : goal.returns-clause-len
returns-clause-len c =
    let short = length-decimal-le 20 c.args.count (omega arith) (omega arith) c.ranges.count.fits in
    let digits = c.push_num.ensures.len in
    let behind = c.push_text.ensures.len in
    omega arith
