-- Answers to the goals of `cell::cell_interval`.
use Rattle.std.proofs.Common.{inr}
use Rattle.timeforms_c.proofs.cell.cell_interval.Goals as goal

pub returns-in-Some : goal.returns-in-Some
returns-in-Some c = inr (c.in-Some.text.now, c.in-Some.ensures.found, c.text_interval.ensures)
