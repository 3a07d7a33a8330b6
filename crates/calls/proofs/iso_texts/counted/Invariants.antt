-- The ghost members of the calls of `iso_texts::counted`.
use Rattle.calls.proofs.iso_texts.counted.Given as goal

abbrev pub ghosts-counted_alone : goal.ghosts-counted_alone
ghosts-counted_alone a = record { name = a.blank.name; parts = a.blank.parts }
