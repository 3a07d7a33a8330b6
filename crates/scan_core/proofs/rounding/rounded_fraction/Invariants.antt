-- The ghost members of the calls of `rounding::rounded_fraction`.
use Rattle.scan_core.proofs.rounding.rounded_fraction.Given as goal

abbrev pub ghosts-rounded_alone : goal.ghosts-rounded_alone
ghosts-rounded_alone a = record { name = a.blank.name; parts = a.blank.parts }
