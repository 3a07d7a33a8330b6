-- How a run over lines ends whose outputs are answers or refusals. A relation says of a line, which may be the first one, its output and
-- whether that is a refusal.
use Rattle.std.specs.Prelude.{◌≡◌, ◌⊎◌, ◌||◌, ℕ, ◌+◌, ◌≤◌, Bool, true, false, List, [], ◌∷◌, ◌++◌, codes, length, take, Option, IfSome}
use Rattle.std.specs.Prelude.{if◌then◌else◌}
use Rattle.std.specs.Io.KnownBytes.{Appends, Consumes, IsAtEnd}
use Rattle.forms.specs.Lines.{lines, whole_lines}
use Rattle.forms.specs.Outside.{Rose, Gives, AppendsFront}
use Rattle.forms.specs.Ends.{Streams}
use Rattle.forms.specs.declared.form.Form.{Form}
use Rattle.forms.specs.TextReplies.{IsTextReply}
use Rattle.forms.specs.declared.run_end.RunEnd.{RunEnd}
use Rattle.forms.specs.declared.run_end.RunEnd.TheVariants.{Done, ReadFault, WriteFault, TooLong, NoMemory}

-- the outputs for lines in order, and whether one of them is a refusal
abbrev pub AreJudged : (Bool → List ℕ → List ℕ → Bool → Type 0) → Bool → List (List ℕ) → List ℕ → Bool → Type 0
AreJudged IsLine first [] out refused = (out ≡ []) × (refused ≡ false)
AreJudged IsLine first (line ∷ more) out refused =
    (one : List ℕ) × (rest : List ℕ) × (here : Bool) × (later : Bool)
    × IsLine first line one here
    × AreJudged IsLine false more rest later
    × (out ≡ one ++ rest)
    × (refused ≡ (here || later))

-- more bytes than any input has
abbrev pub no_limit : ℕ
no_limit = 4_611_686_018_427_387_904

-- the sink gained the outputs for all these lines, with or without a refusal among them, and nothing else
abbrev pub GainsJudged : (Bool → List ℕ → List ℕ → Bool → Type 0) → List (List ℕ) → Bool → Option (List ℕ) → Option (List ℕ) → Type 0
GainsJudged IsLine lines refused old new =
    (out : List ℕ) × AreJudged IsLine true lines out refused × Appends old new out

-- a front of these outputs: a front of those for the first so many lines
pub record IsFrontOfJudged (IsLine : Bool → List ℕ → List ℕ → Bool → Type 0) (lines : List (List ℕ)) (out : List ℕ) : Type 0 where
  pub answered : List (List ℕ)
  pub others : List (List ℕ)
  pub back : List ℕ
  pub refused : Bool
  pub split : lines ≡ answered ++ others
  pub outputs : AreJudged IsLine true answered (out ++ back) refused

-- the sink gained a front of these outputs, and nothing else
abbrev pub GainsJudgedFront : (Bool → List ℕ → List ℕ → Bool → Type 0) → List (List ℕ) → Option (List ℕ) → Option (List ℕ) → Type 0
GainsJudgedFront IsLine lines old new =
    (out : List ℕ) × IsFrontOfJudged IsLine lines out × Appends old new out

-- what stands at each end, as for requests, with whether a line was refused
abbrev pub JudgedStand : (Bool → List ℕ → List ℕ → Bool → Type 0) → List ℕ → Bool → Streams → Streams → RunEnd → Type 0
JudgedStand IsLine given refused old new Done =
    IsAtEnd new.left × GainsJudged IsLine (lines given) refused old.held new.held
JudgedStand IsLine given refused old new ReadFault =
    Rose old.read_faults new.read_faults × GainsJudged IsLine (whole_lines given) refused old.held new.held
JudgedStand IsLine given refused old new WriteFault =
    Rose old.write_faults new.write_faults
    × (GainsJudgedFront IsLine (whole_lines (take no_limit given)) old.held new.held
    ⊎ (IsAtEnd new.left × GainsJudgedFront IsLine (lines given) old.held new.held))
JudgedStand IsLine given refused old new TooLong =
    (length given ≡ no_limit + 1) × GainsJudged IsLine (whole_lines (take no_limit given)) refused old.held new.held
JudgedStand IsLine given refused old new NoMemory = (given ≡ []) × (new ≡ old)

-- the status of each end: 8 where the run is done and a line was refused
abbrev pub judged_status : RunEnd → Bool → ℕ
judged_status Done refused = if refused then 8 else 0
judged_status ReadFault refused = 3
judged_status WriteFault refused = 4
judged_status TooLong refused = 5
judged_status NoMemory refused = 6

-- a run over such lines ended so
pub record JudgedEnded (IsLine : Bool → List ℕ → List ℕ → Bool → Type 0) (old new : Streams) (status : ℕ) : Type 0 where
  pub end : RunEnd
  pub refused : Bool
  pub gave : Gives old.left new.left old.taken new.taken (no_limit + 1)
  pub stands : JudgedStand IsLine gave.given refused old new end
  pub reads_later : old.read_faults ≤ new.read_faults
  pub writes_later : old.write_faults ≤ new.write_faults
  pub told : status ≡ judged_status end refused

-- the end came, and the sink gained the outputs for all lines of all bytes, with or without a refusal among them
abbrev pub AnswersAll : (Bool → List ℕ → List ℕ → Bool → Type 0) → Bool → Streams → Streams → Type 0
AnswersAll IsLine refused old new =
    IsAtEnd new.left × IfSome old.left (λ bytes. GainsJudged IsLine (lines bytes) refused old.held new.held)

-- What each status means.
pub record MeansLines (IsLine : Bool → List ℕ → List ℕ → Bool → Type 0) (old new : Streams) (status : ℕ) : Type 0 where
  -- at 0 each line of all bytes has its output, and none is a refusal; at 8 each has, and one is a refusal
  pub answered : status ≡ 0 → AnswersAll IsLine false old new
  pub refused : status ≡ 8 → AnswersAll IsLine true old new
  -- at 3 a read failed, and the outputs for all whole lines that were taken were written
  pub read : status ≡ 3 → Rose old.read_faults new.read_faults
      × (given : List ℕ) × (refused : Bool) × Consumes old.left new.left given
      × GainsJudged IsLine (whole_lines given) refused old.held new.held
  -- at 4 a write failed, and a front of the outputs for all lines was written
  pub write : status ≡ 4 → Rose old.write_faults new.write_faults
      × IfSome old.left (λ bytes. GainsJudgedFront IsLine (lines bytes) old.held new.held)
  -- without a fault every input is answered, or finds no memory
  pub within : IfSome old.left (λ bytes. length bytes ≤ no_limit
      → (Rose old.read_faults new.read_faults → ⊥)
      → (Rose old.write_faults new.write_faults → ⊥)
      → (status ≡ 0) ⊎ ((status ≡ 8) ⊎ (status ≡ 6)))

-- The one text was answered on a line, and the status is 0 or, where the answer is a refusal, 8; or a write failed, at a front of that
-- line, and the status is 4.
pub record TextEnded (from to : Form) (text : List ℕ) (old new : Option (List ℕ)) (faults faults_now status : ℕ) : Type 0 where
  pub reply : List ℕ
  pub refused : Bool
  pub replied : IsTextReply from to text reply refused
  pub stands : ((status ≡ judged_status Done refused) × Appends old new (reply ++ codes "\n"))
      ⊎ ((status ≡ 4) × Rose faults faults_now × AppendsFront old new (reply ++ codes "\n"))
