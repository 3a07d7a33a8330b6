-- The ghost members of the call of `reading::read`.
use Rattle.pg_interval_2.proofs.reading.read.Given as goal

abbrev pub ghosts-read_alone : goal.ghosts-read_alone
ghosts-read_alone a = record { name = a.blank.name; parts = a.blank.parts }
