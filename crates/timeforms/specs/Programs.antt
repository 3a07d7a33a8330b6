-- What the program promises for the arguments of each command, in the words of that command's crate: the clauses of its `top`, joined.
use Rattle.std.specs.Prelude.{◌≡◌, ◌⊎◌, ℕ, ◌-◌, ◌/◌, ◌<◌, ◌≤◌, Bool, List, length, Option, IfSome}
use Rattle.std.specs.Io.KnownBytes.{Appends, IsAtEnd}
use Rattle.forms.specs.Ends.{EndedWith, GainsFront, GainsReplies, Streams}
use Rattle.forms.specs.Lines.{lines}
use Rattle.forms.specs.Outside.{Rose}
use Rattle.forms.specs.Sample.{SampleEndedWith, told}
use Rattle.text_lines.specs.Ends.{JudgedEnded, MeansLines}
use Rattle.whole_input.specs.Outcomes.{EndedWhole, MeansStatus}

-- A whole input within a limit is answered by what `Says` says of it.
pub record AnswersWhole (Says : List ℕ → List ℕ → ℕ → Type 0) (limit : ℕ) (old new : Streams) (Untouched : Type 0)
    (status : ℕ) : Type 0 where
  -- what was taken and written at each end, and what the status means
  pub ended : EndedWhole Says limit old new status
  pub means : MeansStatus Says limit old new status
  -- where a read failed, the input is too long or there is no memory nothing was written
  pub unwritten : (status ≡ 3) ⊎ ((status ≡ 5) ⊎ (status ≡ 6)) → Untouched

-- Each line has its output, an answer or a refusal.
pub record AnswersLines (IsLine : Bool → List ℕ → List ℕ → Bool → Type 0) (old new : Streams) (status : ℕ) : Type 0 where
  -- what was taken and written at each end, and what the status means
  pub ended : JudgedEnded IsLine old new status
  pub means : MeansLines IsLine old new status

-- Each line of an input within a limit is a request, and has its reply.
pub record AnswersRequests (limit : ℕ) (old new : Streams) (status : ℕ) : Type 0 where
  -- what was taken and written at each end
  pub ended : EndedWith limit old new status
  -- at status 0 the end came, and each line of all that was left has its reply
  pub done : status ≡ 0 → IsAtEnd new.left
  pub replies : status ≡ 0 → IfSome old.left (λ bytes. GainsReplies (lines bytes) old.held new.held)
  -- whatever the status, a front of the replies to all lines was written
  pub front : IfSome old.left (λ bytes. GainsFront (lines bytes) old.held new.held)
  -- without a fault an input is answered exactly where it is within the limit, or finds no memory
  pub within : IfSome old.left (λ bytes. length bytes ≤ limit
      → (Rose old.read_faults new.read_faults → ⊥)
      → (Rose old.write_faults new.write_faults → ⊥)
      → (status ≡ 0) ⊎ (status ≡ 6))
  pub beyond : IfSome old.left (λ bytes. limit < length bytes
      → (Rose old.read_faults new.read_faults → ⊥)
      → (Rose old.write_faults new.write_faults → ⊥)
      → (status ≡ 5) ⊎ (status ≡ 6))

-- A sample of so many lines was answered in memory.
pub record AnswersSample (count : ℕ) (old new : Option (List ℕ)) (faults faults_now status : ℕ) : Type 0 where
  -- it ended with the line that tells of its replies, a fault, or want of memory
  pub ended : SampleEndedWith count old new faults faults_now status
  -- at status 0 the line tells that a tenth of the replies are refusals, rounded down
  pub tenth : status ≡ 0 → (bytes : ℕ) × Appends old new (told count (count - count / 10) (count / 10) bytes)
