-- Answers to the goals of `line_text::push_count`.
use Rattle.std.proofs.Common.{arith}
use Rattle.std.proofs.lemmas.Fmt.{length-decimal-le}
use Rattle.interval_column.proofs.line_text.push_count.Goals as goal

pub push_num-requires : goal.push_num-requires
push_num-requires c =
    let short = length-decimal-le 20 c.args.count (omega arith) (omega arith) c.ranges.count.fits in
    let label = c.push_text.ensures.len in
    omega arith

pub returns-clause-len : goal.returns-clause-len
returns-clause-len c =
    let short = length-decimal-le 20 c.args.count (omega arith) (omega arith) c.ranges.count.fits in
    let label = c.push_text.ensures.len in
    let digits = c.push_num.ensures.len in
    omega arith
