-- Answers to the goals of `lines::most_lines`.
use Rattle.std.proofs.Common.{arith, ap, length}
use Rattle.whole_input.proofs.FirstByte.{most_lines}
use Rattle.whole_input.proofs.lines.most_lines.Goals as goal

pub returns : goal.returns
returns c =
    let most = most_lines c.args.text.now in
    let counted = c.count.ensures in
    let same = ap length c.memchr_iter.ensures.value in
    omega (arith, most, counted, same)
