-- Answers to the goals of `time::Time::cut_from`.
use Rattle.std.proofs.Common.{arith, ◌/◌}
use Rattle.dos_date.proofs.time.Time.cut_from.Goals as goal

pub returns : goal.returns
returns c =
    let made = rw c.to_plain-plain.ensures at c.word_of-word.ensures in
    (c.args.time.second / 2, omega arith, omega arith, omega arith)
