-- Answers to the goals of `file_time::FileTime::to_unix_time`.
use Rattle.std.proofs.Common.{arith, pos, ◌-ℤ◌, ◌/◌}
use Rattle.std.proofs.lemmas.Int.{ints}
use Rattle.nt_time.proofs.file_time.FileTime.to_unix_time.Goals as goal

pub returns-clause-nanos : goal.returns-clause-nanos
returns-clause-nanos c =
    let floor = c.to_unix_time_secs.ensures in
    let least = floor.1 (pos (c.args.self / 10_000_000) -ℤ pos 11_644_473_600) (omega (arith, ints)) in
    omega (arith, ints, least)
