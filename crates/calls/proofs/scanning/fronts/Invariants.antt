-- The ghost members of the calls of `scanning::fronts`.
use Rattle.calls.proofs.scanning.fronts.Given as goal

abbrev pub ghosts-fronts_alone : goal.ghosts-fronts_alone
ghosts-fronts_alone a = record { name = a.blank.name; parts = a.blank.parts }
