-- The invariant of the loop of `streams::read_again`.
use Rattle.std.specs.Io.KnownBytes.{Keeps}
use Rattle.timeforms.proofs.streams.read_again.Given as goal

abbrev pub invariant-loop : goal.invariant-loop
invariant-loop g l = record { kept : Keeps (g.R.Read.remaining l.initial.reader) (g.R.Read.remaining l.reader) }
