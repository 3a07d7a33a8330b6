-- Answers to the goals of `date::word_of`.
use Rattle.std.proofs.Common.{arith, ◌≡◌, ◌*◌, ◌%◌}
use Rattle.dos_date.proofs.BitFields.{or_fields}
use Rattle.dos_date.proofs.date.word_of.Goals as goal

pub returns : goal.returns
returns c =
    let years : c.args.years * 512 % 65536 ≡ c.args.years * 512 = omega arith in
    let month : c.args.month * 32 % 65536 ≡ c.args.month * 32 = omega arith in
    rw (years, month) (or_fields 9 c.args.years c.args.month c.args.day (omega arith) (omega arith))
