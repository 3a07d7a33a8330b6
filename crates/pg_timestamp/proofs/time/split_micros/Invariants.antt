-- The invariant and the measure of the loop of `time::split_micros`.
use Rattle.std.proofs.Common.{◌-◌, length}
use Rattle.pg_timestamp.proofs.MicrosFacts.{ArePassed}
use Rattle.pg_timestamp.proofs.time.split_micros.Given as goal

abbrev pub invariant-loop-len : goal.invariant-loop-len
invariant-loop-len l = ArePassed l.text l.len l.number

abbrev pub decreases-loop-len : goal.decreases-loop-len
decreases-loop-len l = length l.text - l.len
