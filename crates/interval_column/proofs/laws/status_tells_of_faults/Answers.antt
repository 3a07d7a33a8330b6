-- Answers to the goals of `laws::status_tells_of_faults`.
use Rattle.interval_column.proofs.OneOutput.{status_8, status_0}
use Rattle.interval_column.proofs.laws.status_tells_of_faults.Goals as goal

pub returns-clause-faulty : goal.returns-clause-faulty
returns-clause-faulty c = status_8 c.faulty_input_has_no_column.ensures

pub returns-clause-sound : goal.returns-clause-sound
returns-clause-sound c = status_0 c.faulty_input_has_no_column.ensures
