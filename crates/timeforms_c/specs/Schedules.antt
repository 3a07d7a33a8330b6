-- What the check of a schedule leaves of each answer.
use Rattle.std.specs.Prelude.{◌≡◌, ℕ, ℤ, pos, List, Result, Ok, Err}
use Rattle.schedule_check.specs.declared.check_error.CheckError.{CheckError}
use Rattle.schedule_check.specs.declared.check_error.CheckError.TheVariants.{Refused, Clash, NoMemory}
use Rattle.schedule_check.specs.declared.slot.Slot.{Slot}
use Rattle.timeforms_c.specs.Codes.{clash, code_of_fault}

-- What stands in the places of the lines and in those of the two numbers, and the number that is answered.
--   Ok        all slots in order, and 0
--   Refused   the number of the line first, and the code of the fault
--   Clash     the numbers of the two lines, and the code of a clash
-- Want of memory is no answer, since the call asks for none.
abbrev pub TellsAnswer : Result (List Slot) CheckError → List Slot → ℕ → ℕ → ℤ → Type 0
TellsAnswer (Ok ordered) slots first second code = (slots ≡ ordered) × (code ≡ pos 0)
TellsAnswer (Err (Refused line fault)) slots first second code = (first ≡ line) × (code ≡ code_of_fault fault)
TellsAnswer (Err (Clash a b)) slots first second code = (first ≡ a) × (second ≡ b) × (code ≡ clash)
TellsAnswer (Err NoMemory) slots first second code = ⊥
