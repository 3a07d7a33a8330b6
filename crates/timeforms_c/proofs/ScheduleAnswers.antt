-- What the check of a schedule tells, said of the code as 32 bits hold it.
use Rattle.std.proofs.Common.{◌≡◌, ℕ, List, Result, FitsSigned, to_z, of_z, w32, sym}
use Rattle.std.specs.Prelude.{ℤ}
use Rattle.std.proofs.Math.Facts.{to_z-of_z}
use Rattle.schedule_check.specs.declared.check_error.CheckError.{CheckError}
use Rattle.schedule_check.specs.declared.slot.Slot.{Slot}
use Rattle.timeforms_c.specs.Schedules.{TellsAnswer}

pub tells_as : (given answer : Result (List Slot) CheckError) (slots : List Slot) (first second : ℕ) (code : ℤ) → given ≡ answer
    → FitsSigned w32 code → TellsAnswer given slots first second code → TellsAnswer answer slots first second (to_z w32 (of_z w32 code))
tells_as given answer slots first second code same fits h = rw (sym same, to_z-of_z fits) h
