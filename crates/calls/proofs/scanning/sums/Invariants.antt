-- The ghost members of the calls of `scanning::sums`.
use Rattle.calls.proofs.scanning.sums.Given as goal

abbrev pub ghosts-sums_alone : goal.ghosts-sums_alone
ghosts-sums_alone a = record { name = a.blank.name; parts = a.blank.parts }
