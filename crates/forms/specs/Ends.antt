-- How a run ends: what it took of the source, and what then stands on the source and the sink.
use Rattle.std.specs.Prelude.{◌≡◌, ◌⊎◌, ℕ, ◌+◌, ◌<◌, ◌≤◌, List, [], length, take, Option, IfSome}
use Rattle.std.specs.Io.KnownBytes.{Appends, IsAtEnd}
use Rattle.forms.specs.Lines.{lines, whole_lines}
use Rattle.forms.specs.Outside.{Rose, Gives}
use Rattle.forms.specs.Replies.{AreReplies, IsFrontOfReplies}
use Rattle.forms.specs.declared.run_end.RunEnd.{RunEnd}
use Rattle.forms.specs.declared.run_end.RunEnd.TheVariants.{Done, ReadFault, WriteFault, TooLong, NoMemory}

-- the sink gained one reply for each line, in order, and nothing else
abbrev pub GainsReplies : List (List ℕ) → Option (List ℕ) → Option (List ℕ) → Type 0
GainsReplies lines old new = (out : List ℕ) × AreReplies lines out × Appends old new out

-- the sink gained a front of these replies, and nothing else
abbrev pub GainsFront : List (List ℕ) → Option (List ℕ) → Option (List ℕ) → Type 0
GainsFront lines old new = (out : List ℕ) × IsFrontOfReplies lines out × Appends old new out

-- what is seen of a source and a sink: the bytes still to come and those held, where they are told, how many bytes
-- were taken, and how many reads and writes failed
pub record Streams : Type 0 where
  pub left : Option (List ℕ)
  pub taken : ℕ
  pub read_faults : ℕ
  pub held : Option (List ℕ)
  pub write_faults : ℕ

-- the same of a source and a sink, by what their traits tell
abbrev pub streams : {S K : Type 0} → (S → Option (List ℕ)) → (S → ℕ) → (S → ℕ)
    → (K → Option (List ℕ)) → (K → ℕ) → S → K → Streams
streams left taken read_faults held write_faults source sink = record {
  left = left source;
  taken = taken source;
  read_faults = read_faults source;
  held = held sink;
  write_faults = write_faults sink;
}

-- What stands at each end, by the bytes that the run took.
--   Done        the end came within the limit, and each line has its reply
--   ReadFault   a read failed; the lines whose line feeds were taken have their replies, and nothing else was written
--   WriteFault  a write failed; a front of those replies was written, or, at the end, of the replies to all lines
--   TooLong     one byte more than the limit was taken; the whole lines within the limit have their replies
--   NoMemory    nothing was taken, and nothing is changed
abbrev pub Stands : ℕ → List ℕ → Streams → Streams → RunEnd → Type 0
Stands limit given old new Done =
    IsAtEnd new.left × (length given ≤ limit) × GainsReplies (lines given) old.held new.held
Stands limit given old new ReadFault =
    Rose old.read_faults new.read_faults
    × (length given ≤ limit)
    × GainsReplies (whole_lines given) old.held new.held
Stands limit given old new WriteFault =
    Rose old.write_faults new.write_faults
    × (GainsFront (whole_lines (take limit given)) old.held new.held
    ⊎ (IsAtEnd new.left × (length given ≤ limit) × GainsFront (lines given) old.held new.held))
Stands limit given old new TooLong =
    (length given ≡ limit + 1) × GainsReplies (whole_lines (take limit given)) old.held new.held
Stands limit given old new NoMemory = (given ≡ []) × (new ≡ old)

-- a run within a limit ended so: it took some bytes, one more than the limit at most, no count of faults fell, and
-- this stands
pub record Ended (limit : ℕ) (old new : Streams) (end : RunEnd) : Type 0 where
  pub gave : Gives old.left new.left old.taken new.taken (limit + 1)
  pub stands : Stands limit gave.given old new end
  pub reads_later : old.read_faults ≤ new.read_faults
  pub writes_later : old.write_faults ≤ new.write_faults

-- the exit status of each end
abbrev pub status_of : RunEnd → ℕ
status_of Done = 0
status_of ReadFault = 3
status_of WriteFault = 4
status_of TooLong = 5
status_of NoMemory = 6

-- a run within a limit ended so, and this is its status
abbrev pub EndedWith : ℕ → Streams → Streams → ℕ → Type 0
EndedWith limit old new status = (end : RunEnd) × Ended limit old new end × (status ≡ status_of end)

-- what the length of the input decides: within the limit the run is done, beyond it the input is too long, if there
-- is memory
abbrev pub EndsByLength : ℕ → Option (List ℕ) → RunEnd → Type 0
EndsByLength limit left end =
    IfSome left (λ bytes.
    (length bytes ≤ limit → (end ≡ Done) ⊎ (end ≡ NoMemory))
    × (limit < length bytes → (end ≡ TooLong) ⊎ (end ≡ NoMemory)))
