-- Answers to the goals of `time::word_of`.
use Rattle.std.proofs.Common.{arith, ◌≡◌, ◌*◌, ◌%◌}
use Rattle.dos_date.proofs.BitFields.{or_fields}
use Rattle.dos_date.proofs.time.word_of.Goals as goal

pub returns : goal.returns
returns c =
    let hour : c.args.hour * 2048 % 65536 ≡ c.args.hour * 2048 = omega arith in
    let minute : c.args.minute * 32 % 65536 ≡ c.args.minute * 32 = omega arith in
    rw (hour, minute) (or_fields 11 c.args.hour c.args.minute c.args.halved (omega arith) (omega arith))
