-- The ghost members of the calls of `lines::counted`.
use Rattle.calls.proofs.lines.counted.Given as goal

abbrev pub ghosts-counted_alone : goal.ghosts-counted_alone
ghosts-counted_alone a = record { name = a.blank.name; parts = a.blank.parts }
