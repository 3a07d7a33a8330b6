-- What is written for the lines of an input: one output a line, in order. A relation says what a line's output is, with its line feed, and
-- how
-- what answers the lines changes by it.
use Rattle.std.specs.Prelude.{◌≡◌, ◌⊎◌, ℕ, ◌+◌, ◌≤◌, List, [], ◌∷◌, ◌++◌, length, take, Option}
use Rattle.std.specs.Io.KnownBytes.{Appends, IsAtEnd}
use Rattle.forms.specs.Lines.{lines, whole_lines}
use Rattle.forms.specs.Outside.{Rose, Gives, AppendsFront}
use Rattle.forms.specs.Waiting.{Moves}
use Rattle.forms.specs.Ends.{Streams}
use Rattle.forms.specs.declared.run_end.RunEnd.{RunEnd}
use Rattle.forms.specs.declared.run_end.RunEnd.TheVariants.{Done, ReadFault, WriteFault, TooLong, NoMemory}

-- one output for each line, in order, from one state of what answers to another
abbrev pub AreOutputs : {A : Type 0} → (A → List ℕ → List ℕ → A → Type 0) → A → List (List ℕ)
    → List ℕ
    → A
    → Type 0
AreOutputs Says s [] out t = (out ≡ []) × (t ≡ s)
AreOutputs {A} Says s (line ∷ more) out t =
    (first : List ℕ) × (rest : List ℕ) × (mid : A) × Says s line first mid
    × AreOutputs Says mid more rest t
    × (out ≡ first ++ rest)

-- a front of the outputs: a front of those for the first so many lines
pub record IsFrontOfOutputs {A : Type 0} (Says : A → List ℕ → List ℕ → A → Type 0) (s : A) (lines : List (List ℕ))
    (out : List ℕ) : Type 0 where
  pub answered : List (List ℕ)
  pub others : List (List ℕ)
  pub back : List ℕ
  pub last : A
  pub split : lines ≡ answered ++ others
  pub outputs : AreOutputs Says s answered (out ++ back) last

-- the sink gained one output for each line, in order, and nothing else
abbrev pub GainsOutputs : {A : Type 0} → (A → List ℕ → List ℕ → A → Type 0) → A → List (List ℕ)
    → A
    → Option (List ℕ) → Option (List ℕ) → Type 0
GainsOutputs Says s lines t old new = (out : List ℕ) × AreOutputs Says s lines out t × Appends old new out

-- the sink gained a front of these outputs, and nothing else
abbrev pub GainsOutputsFront : {A : Type 0} → (A → List ℕ → List ℕ → A → Type 0) → A → List (List ℕ)
    → Option (List ℕ) → Option (List ℕ) → Type 0
GainsOutputsFront Says s lines old new = (out : List ℕ) × IsFrontOfOutputs Says s lines out × Appends old new out

-- a line is answered by its first bytes alone, so many at most
abbrev pub cut : {A : Type 0} → ℕ → (A → List ℕ → List ℕ → A → Type 0) → A → List ℕ → List ℕ → A → Type 0
cut most Says s line out t = Says s (take most line) out t

-- What stands at each end, by the bytes that the run took.
--   Done        the end came within the limit, and each line has its output
--   ReadFault   a read failed; the lines whose line feeds were taken have their outputs, and nothing else was written
--   WriteFault  a write failed; a front of those outputs was written, or, at the end, of the outputs for all lines
--   TooLong     one byte more than the limit was taken; the whole lines within the limit have their outputs
--   NoMemory    nothing was taken, and nothing is changed
abbrev pub StandsBy : {A : Type 0} → (A → List ℕ → List ℕ → A → Type 0) → ℕ → List ℕ → A → A → Streams → Streams → RunEnd → Type 0
StandsBy Says limit given s t old new Done =
    IsAtEnd new.left × (length given ≤ limit) × GainsOutputs Says s (lines given) t old.held new.held
StandsBy Says limit given s t old new ReadFault =
    Rose old.read_faults new.read_faults
    × (length given ≤ limit)
    × GainsOutputs Says s (whole_lines given) t old.held new.held
StandsBy Says limit given s t old new WriteFault =
    Rose old.write_faults new.write_faults
    × (GainsOutputsFront Says s (whole_lines (take limit given)) old.held new.held
    ⊎ (IsAtEnd new.left × (length given ≤ limit) × GainsOutputsFront Says s (lines given) old.held new.held))
StandsBy Says limit given s t old new TooLong =
    (length given ≡ limit + 1) × GainsOutputs Says s (whole_lines (take limit given)) t old.held new.held
StandsBy Says limit given s t old new NoMemory = (given ≡ []) × (t ≡ s) × (new ≡ old)

-- a run within a limit ended so: it took some bytes, one more than the limit at most, no count of faults fell, and
-- this stands
pub record EndedBy {A : Type 0} (Says : A → List ℕ → List ℕ → A → Type 0) (limit : ℕ) (s t : A) (old new : Streams)
    (end : RunEnd) : Type 0 where
  pub gave : Gives old.left new.left old.taken new.taken (limit + 1)
  pub stands : StandsBy Says limit gave.given s t old new end
  pub reads_later : old.read_faults ≤ new.read_faults
  pub writes_later : old.write_faults ≤ new.write_faults

-- ---- what waits for a sink

-- the output for a line was put behind what waits
abbrev pub PutsOutput : {A : Type 0} → (A → List ℕ → List ℕ → A → Type 0) → A → List ℕ → A
    → Option (List ℕ) → Option (List ℕ) → List ℕ → List ℕ → Type 0
PutsOutput Says s line t old new before after = (text : List ℕ) × Says s line text t × Moves old new before text after

-- the sink gained a front of what waits, or of that and the output for a line behind it
abbrev pub FailsOutput : {A : Type 0} → (A → List ℕ → List ℕ → A → Type 0) → A → List ℕ
    → Option (List ℕ) → Option (List ℕ) → List ℕ → Type 0
FailsOutput {A} Says s line old new before =
    AppendsFront old new before
    ⊎ ((text : List ℕ) × (t : A) × Says s line text t × AppendsFront old new (before ++ text))
