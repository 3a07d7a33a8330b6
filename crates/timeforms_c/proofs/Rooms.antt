-- What was left in a room, said of the code as 32 bits hold it.
use Rattle.std.proofs.Common.{◌≡◌, ℕ, List, Result, FitsSigned, to_z, of_z, w32, sym}
use Rattle.std.specs.Prelude.{ℤ}
use Rattle.std.proofs.Math.Facts.{to_z-of_z}
use Rattle.forms.specs.declared.cause.Cause.{Cause}
use Rattle.timeforms_c.specs.Rooms.{Answers, Leaves}

pub leaves_as : (given text old new : List ℕ) (code : ℤ) → given ≡ text → FitsSigned w32 code → Leaves given old new code
    → Leaves text old new (to_z w32 (of_z w32 code))
leaves_as given text old new code same fits h = rw (sym same, to_z-of_z fits) h

pub answers_as : (given answer : Result (List ℕ) Cause) (old new : List ℕ) (code : ℤ) → given ≡ answer → FitsSigned w32 code
    → Answers given old new code → Answers answer old new (to_z w32 (of_z w32 code))
answers_as given answer old new code same fits h = rw (sym same, to_z-of_z fits) h
